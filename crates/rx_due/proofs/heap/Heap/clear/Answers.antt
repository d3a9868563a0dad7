use Rattle.std.proofs.Common.{◌≡◌, ◌+◌, ◌-◌, ◌<◌, ℕ, List, Some, length, set, arith, subst, sym}
use Rattle.rx_due.specs.declared.heap.Heap.{Heap}
use Rattle.rx_due.specs.Heap.{place_of, entry_at, key_at, moment_in, IsOpen, IsHeap, KeepsOthers}
use Rattle.rx_due.proofs.Taking.{Cleared, open_without, heap_without, refilled}
use Rattle.rx_due.proofs.heap.Heap.clear.Goals as goal

module _ (h new : Heap) (key hole : ℕ) (places : List (ℕ × ℕ)) (e : ℕ × ℕ) where
  -- the last entry, as it was read, was settled in the heap without the key, as it was written
  settled : IsHeap h → key < length h.places → place_of h key ≡ hole + 1 → hole < h.len - 1
      → places ≡ set h.places key (0, 0) → e ≡ entry_at h (h.len - 1) → moment_in new e.1 ≡ Some e.0
      → KeepsOthers (record { entries = h.entries; places = places; len = h.len - 1 }) new e.1 → Cleared h new key
  settled so key_in place_is more places_are e_is moment keeps =
      let moment_last = subst (λ (x : ℕ × ℕ). moment_in new x.1 ≡ Some x.0) e_is moment in
      let keeps_last =
      subst (λ (x : ℕ × ℕ). KeepsOthers (record { entries = h.entries; places = places; len = h.len - 1 }) new x.1)
      e_is keeps in
      let keeps_without =
      subst (λ (cells : List (ℕ × ℕ)). KeepsOthers (record { entries = h.entries; places = cells; len = h.len - 1 })
      new (key_at h (h.len - 1))) places_are keeps_last in
      refilled h key hole so key_in place_is (omega (arith, more)) new moment_last keeps_without

pub overflow_sub-self : goal.overflow_sub-self
overflow_sub-self g c =
    omega (arith, c.requires.heap.tied.leads_within c.args.key c.in-Some.hole c.in-Some.ensures.found)

pub settle-requires : goal.settle-requires
settle-requires g c =
    let h = c.args.self.now in
    let opens =
    open_without h c.args.key c.in-Some.hole c.requires.heap c.requires.key c.in-Some.ensures.found
    (omega (arith, c.if-hole-self.true)) in
    let here =
    subst (λ (places : List (ℕ × ℕ)). IsOpen (record { entries = h.entries; places = places; len = h.len - 1 })
    c.in-Some.hole (key_at h (h.len - 1))) (sym c.put.ensures.updates) opens in
    record {
      «open» =
          subst (λ (e : ℕ × ℕ). IsOpen (record { entries = h.entries; places = c.put.new.self; len = h.len - 1 })
          c.in-Some.hole e.1) (sym c.at-last.ensures.entry) here;
    }

pub returns-then-hole-self-clause-moment : goal.returns-then-hole-self-clause-moment
returns-then-hole-self-clause-moment g c =
    (settled c.args.self.now c.settle.new.self c.args.key c.in-Some.hole c.put.new.self c.at-last.result
    c.requires.heap c.requires.key c.in-Some.ensures.found c.if-hole-self.true c.put.ensures.updates
    c.at-last.ensures.entry c.settle.ensures.moment c.settle.ensures.keeps).moment

pub returns-then-hole-self-clause-keeps : goal.returns-then-hole-self-clause-keeps
returns-then-hole-self-clause-keeps g c =
    (settled c.args.self.now c.settle.new.self c.args.key c.in-Some.hole c.put.new.self c.at-last.result
    c.requires.heap c.requires.key c.in-Some.ensures.found c.if-hole-self.true c.put.ensures.updates
    c.at-last.ensures.entry c.settle.ensures.moment c.settle.ensures.keeps).keeps

pub returns-else-hole-self-clause-heap : goal.returns-else-hole-self-clause-heap
returns-else-hole-self-clause-heap g c =
    let h = c.args.self.now in
    let heap =
    heap_without h c.args.key c.in-Some.hole c.requires.heap c.requires.key c.in-Some.ensures.found
    (omega (arith, c.if-hole-self.false)) in
    subst (λ (places : List (ℕ × ℕ)). IsHeap (record { entries = h.entries; places = places; len = h.len - 1 }))
    (sym c.put.ensures.updates) heap
