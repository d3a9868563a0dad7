use Rattle.std.proofs.Common.{◌≡◌, List, [], ◌++◌, ℕ, Ok, ap, sym, subst, ◌∙◌, rules, append_assoc, append-nil}
use Rattle.std.proofs.lemmas.List.{nil_from_length}
use Rattle.std.specs.Slice.Iter.{chunks_rest}
use Rattle.hex.specs.Hex.{encode_lower, encode_with}
use Rattle.rx_model.proofs.HexText.{encode_lower-append}
use Rattle.rx_wire_loop.specs.Tells.{SinkTells, sink_tells}
use Rattle.rx_top.specs.Puts.{PutsText}
use Rattle.rx_top.proofs.PutLemmas.{puts_more, puts_none, puts_stopped}
use Rattle.rx_top.proofs.ok_line.put_hex.Goals as goal

-- the hex of what is done, of a piece and of what is left
parts_hex : (done piece left rest bytes : List ℕ) → done ++ rest ≡ bytes → rest ≡ piece ++ left
    → encode_lower done ++ (encode_lower piece ++ encode_lower left) ≡ encode_lower bytes
parts_hex done piece left rest bytes whole parts =
    ap (λ (hex : List ℕ). encode_lower done ++ hex) (sym (encode_lower-append piece left) ∙ ap encode_lower (sym parts))
    ∙ sym (encode_lower-append done rest) ∙ ap encode_lower whole

pub loop-piece-init : goal.loop-piece-init
unfolding encode_with
loop-piece-init g c =
    record {
      next = search rules;
      ends = tt;
      size = search rules;
      put =
          ([], search rules, puts_none (sink_tells (g.O.Sink.told c.args.out.now) (g.O.Sink.faults c.args.out.now)));
    }

pub loop-piece-preserved : goal.loop-piece-preserved
loop-piece-preserved g c =
    let start : SinkTells = sink_tells (g.O.Sink.told c.args.out.now) (g.O.Sink.faults c.args.out.now) in
    let before : SinkTells = sink_tells (g.O.Sink.told c.loop-piece.out) (g.O.Sink.faults c.loop-piece.out) in
    let after : SinkTells = sink_tells (g.O.Sink.told c.put_piece.new.out) (g.O.Sink.faults c.put_piece.new.out) in
    let piece : List ℕ = c.in-Some.piece.now in
    let steps = c.in-Some.ensures.steps in
    let so_far = c.loop-piece.invariant.put in
    record {
      next = search rules;
      ends = tt;
      size = steps.0 ∙ c.loop-piece.invariant.size;
      put = (
        so_far.0 ++ piece,
        append_assoc so_far.0 piece (chunks_rest c.next.new.self)
            ∙ ap (λ (left : List ℕ). so_far.0 ++ left) (sym steps.1.0) ∙ so_far.1,
        subst (λ (hex : List ℕ). PutsText (Ok tt) hex start after) (sym (encode_lower-append so_far.0 piece))
            (puts_more (Ok tt) (encode_lower so_far.0) (encode_lower piece) start before after so_far.2
            c.in_ok-put_piece.ensures),
      );
    }

pub returns-in_err-put_piece : goal.returns-in_err-put_piece
returns-in_err-put_piece g c =
    let start : SinkTells = sink_tells (g.O.Sink.told c.args.out.now) (g.O.Sink.faults c.args.out.now) in
    let before : SinkTells = sink_tells (g.O.Sink.told c.loop-piece.out) (g.O.Sink.faults c.loop-piece.out) in
    let after : SinkTells = sink_tells (g.O.Sink.told c.put_piece.new.out) (g.O.Sink.faults c.put_piece.new.out) in
    let piece : List ℕ = c.in-Some.piece.now in
    let left : List ℕ = chunks_rest c.next.new.self in
    let so_far = c.loop-piece.invariant.put in
    subst (λ (hex : List ℕ). PutsText c.from_residual.result hex start after)
    (parts_hex so_far.0 piece left (chunks_rest c.loop-piece.piece-iterator) c.args.bytes.now so_far.1
    c.in-Some.ensures.steps.1.0)
    (puts_more c.from_residual.result (encode_lower so_far.0) (encode_lower piece ++ encode_lower left) start before
    after so_far.2 (puts_stopped c.from_residual.result (record {}) (encode_lower piece) (encode_lower left) before
    after
    c.from_residual.ensures.0 c.in_err-put_piece.ensures))

pub returns : goal.returns
returns g c =
    let so_far = c.loop-piece.invariant.put in
    let none = nil_from_length (chunks_rest c.loop-piece.piece-iterator) c.in-None.ensures.steps.1.0 in
    let whole : so_far.0 ≡ c.args.bytes.now =
    sym (append-nil so_far.0) ∙ ap (λ (left : List ℕ). so_far.0 ++ left) (sym none) ∙ so_far.1 in
    subst (λ (bytes : List ℕ). PutsText (Ok tt) (encode_lower bytes)
    (sink_tells (g.O.Sink.told c.args.out.now) (g.O.Sink.faults c.args.out.now))
    (sink_tells (g.O.Sink.told c.loop-piece.out) (g.O.Sink.faults c.loop-piece.out))) whole so_far.2
