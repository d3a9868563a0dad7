-- Lemmas on a text that is put part by part.
use Rattle.std.proofs.Common.{◌≡◌, ◌∙◌, ℕ, List, [], ◌++◌, Result, Ok, Err, OnOk, OnErr, refl, subst}
use Rattle.std.specs.Prelude.{IsErr}
use Rattle.rx_base.specs.Sink.{Gained, GainedSome, HasRisen}
use Rattle.rx_base.specs.declared.sink.Failed.{Failed}
use Rattle.rx_base.proofs.SinkLemmas.{gained_more, gained_none, gained_some_front, gained_some_more}
use Rattle.rx_wire_loop.specs.Tells.{SinkTells}
use Rattle.rx_top.specs.Puts.{PutsText}

-- how one put of a sink ends
pub puts_bytes : (r : Result (Unit {0}) Failed) (bytes : List ℕ) (a b : SinkTells)
    → OnOk r (Gained a.put b.put bytes) → OnOk r (b.faults ≡ a.faults)
    → OnErr r (GainedSome a.put b.put bytes) → OnErr r (HasRisen a.faults b.faults) → PutsText r bytes a b
puts_bytes (Ok done) bytes a b gained same some risen = (gained, same)
puts_bytes (Err failed) bytes a b gained same some risen = (some, risen)

-- nothing to put
pub puts_none : (a : SinkTells) → PutsText (Ok tt) [] a a
puts_none a = (gained_none a.put, refl)

-- one text more, however its put ends
pub puts_more : (r : Result (Unit {0}) Failed) (xs ys : List ℕ) (a b c : SinkTells)
    → PutsText (Ok tt) xs a b → PutsText r ys b c → PutsText r (xs ++ ys) a c
puts_more (Ok done) xs ys a b c first second =
    (gained_more a.put b.put c.put xs ys first.0 second.0, second.1 ∙ first.1)
puts_more (Err failed) xs ys a b c first second = (
  gained_some_more a.put b.put c.put xs ys first.0 second.0,
  subst (λ (n : ℕ). HasRisen n c.faults) first.1 second.1,
)

-- a put that failed ends what was to come behind it, however its fault is handed on
pub puts_stopped : (r : Result (Unit {0}) Failed) (failed : Failed) (xs ys : List ℕ) (a b : SinkTells) → IsErr r
    → PutsText (Err failed) xs a b → PutsText r (xs ++ ys) a b
puts_stopped (Ok done) failed xs ys a b is stopped = absurd cc
puts_stopped (Err other) failed xs ys a b is stopped = (gained_some_front a.put b.put xs ys stopped.0, stopped.1)
