use Rattle.std.proofs.Common.{◌==◌, map, take, drop, slice_index, ℕ, ap, ◌∙◌}
use Rattle.std.proofs.Math.Seq.{drop-drop}
use Rattle.rx_model.specs.Reading.{window_in}
use Rattle.rx_packet.proofs.read.ack_in.Goals as goal

-- the marks, and what stands behind them
pub returns : goal.returns
returns c =
    let rest = c.args.rest.now in
    let marks =
    c.split_at-2.ensures.front ∙ ap (take c.from-count.result) c.split_at.ensures.back
    ∙ ap (λ (n : ℕ). take n (drop 18 rest)) c.from-count.ensures in
    let tail =
    c.split_at-2.ensures.back ∙ ap (drop c.from-count.result) c.split_at.ensures.back
    ∙ ap (λ (n : ℕ). drop n (drop 18 rest)) c.from-count.ensures ∙ drop-drop (slice_index rest 17) 18 rest in
    let read = c.marks_in.ensures ∙ ap (map (λ (b : ℕ). b == 1)) marks in
    let window = c.window_in.ensures ∙ ap window_in tail in
    λ i. record {
      first = c.word_at.ensures i;
      previous = c.word_at-2.ensures i;
      serial = c.word_at-3.ensures i;
      reason = c.reason_of.ensures i;
      marks = read i;
      window = window i;
    }
