use Rattle.std.proofs.Common.{rules, arith, List, ℕ, [], Some, ◌≡◌, ◌≤◌, ◌++◌, ◌-◌, length, min, take, drop}
use Rattle.std.proofs.Common.{ap, sym, inl, inr, refl, ◌∙◌}
use Rattle.std.proofs.lemmas.List.{append-nil, take-append-drop}
use Rattle.rx_base.proofs.SinkLemmas.{append-take}
use Rattle.rx_base.proofs.mem_sink.MemSinkSink.put.Goals as goal
use Rattle.rx_base.proofs.mem_sink.MemSinkSink.put.Goals.{else-not-is_planned-via-then-not-is_planned+else-fill-bytes}
use Rattle.rx_base.proofs.mem_sink.MemSinkSink.put.Goals.{else-not-is_planned-via-else-not-is_planned}

pub returns-clause-err : goal.returns-clause-err
returns-clause-err c =
    let bytes = c.args.bytes.now in
    let some : List ℕ → _ = λ (bs : List ℕ). Some bs in
    elim c.else-not-is_planned.branch [
      | else-not-is_planned-via-then-not-is_planned+else-fill-bytes w ↦
          let n = w.fill.result in
          let filled : c.self-2.inside.bytes.items ≡ c.args.self.now.bytes ++ take n bytes =
          search (rules, c.self-2.view_is, w.self-is, w.fill.ensures.after) in
          (take n bytes, drop n bytes, take-append-drop n bytes, ap some filled)
      | else-not-is_planned-via-else-not-is_planned w ↦
          let kept : c.self-2.inside.bytes.items ≡ c.args.self.now.bytes =
          search (rules, c.self-2.view_is, w.self-is) in
          ([], bytes, refl, ap some (kept ∙ sym (append-nil c.args.self.now.bytes)))
    ]

pub returns-clause-fitting : goal.returns-clause-fitting
returns-clause-fitting c =
    let bytes = c.args.bytes.now in
    let s = c.args.self.now in
    elim c.else-not-is_planned.branch [
      | else-not-is_planned-via-then-not-is_planned+else-fill-bytes w ↦
          let n = w.fill.result in
          let filled : c.self-2.inside.bytes.items ≡ s.bytes ++ take n bytes =
          search (rules, c.self-2.view_is, w.self-is, w.fill.ensures.after) in
          let fitting : n ≡ min (length bytes) (s.room - length s.bytes) =
          search (rules, c.self.view_is, w.fill.ensures.fitting) in
          let within : length s.bytes ≤ s.room = search (rules, c.self.view_is, w.fill.ensures.within) in
          let room_left : n ≡ s.room - length s.bytes = omega (arith, fitting, w.if-fill-bytes.false) in
          inr (filled ∙ ap (λ (k : ℕ). s.bytes ++ take k bytes) room_left ∙ append-take s.bytes bytes s.room within)
      | else-not-is_planned-via-else-not-is_planned w ↦ inl (search rules)
    ]
