use Rattle.std.proofs.Common.{◌≡◌, ◌<◌, ◌∙◌, ap, sym, arith, length, take, List, ℕ}
use Rattle.std.proofs.lemmas.List.{length-take-le}
use Rattle.rx_jumbo.specs.JoinerState.{JoinerState}
use Rattle.rx_jumbo.specs.Parts.{parts_of}
use Rattle.rx_jumbo.proofs.KeptLaws.{count_held, held_parts, spare_copied}
use Rattle.rx_jumbo.proofs.joiner.Joiner.out.Goals as goal

pub returns-clause-none : goal.returns-clause-none
returns-clause-none c =
    let count = count_held c.self.invariant in
    let held = ap (λ (h : JoinerState). length h.datagrams) c.self.view_is in (
      λ never. absurd cc,
      λ none. absurd (let no_one = ap (λ (ds : List (List ℕ)). length ds) none in
          c.if-self-eq0.false (omega (arith, count, held, no_one))),
    )

pub returns-clause-parts : goal.returns-clause-parts
returns-clause-parts c =
    let j = c.self.inside in
    let some : 0 < j.count = omega (arith, c.if-self-eq0.false) in
    let written = c.put-end.ensures.puts.front ∙ ap (take j.len) c.deref.ensures.value in
    ap parts_of written ∙ sym (held_parts j.count (take j.len j.bytes.items) some)
    ∙ ap (λ (h : JoinerState). h.datagrams) c.self.view_is

pub returns-clause-spares : goal.returns-clause-spares
returns-clause-spares c =
    let j = c.self.inside in
    let count = count_held c.self.invariant in
    let held = ap (λ (h : JoinerState). length h.datagrams) c.self.view_is in
    let new : List ℕ = c.put-end.new.to in
    let length_is = ap (λ (xs : List ℕ). length xs) c.deref.ensures.value in
    let size =
    length-take-le j.len c.deref.result.now
    (omega (arith, length_is, c.self.invariant.size, c.self.invariant.within)) in
    let end : c.put-end.result ≡ j.len = omega (arith, c.put-end.ensures.puts.size, size) in
    let copy : take j.len new ≡ take j.len j.bytes.items =
    ap (λ (n : ℕ). take n new) (sym end) ∙ c.put-end.ensures.puts.front ∙ ap (take j.len) c.deref.ensures.value in
    λ k some below. spare_copied k new c.self.invariant some (omega (arith, count, held, below)) copy
