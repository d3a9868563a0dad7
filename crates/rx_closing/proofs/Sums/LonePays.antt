-- An end that hears nothing, in rounds in which none of its numbers moves: what it may yet give before twelve seconds
-- have passed falls with each round in which it gives something.
use Rattle.std.proofs.Common.{◌≡◌, ◌<◌, ◌≤◌, ◌+◌, ◌-◌, ◌*◌, max, ℕ, Bool, true, false, List, [], ap, ◌∙◌, refl, arith}
use Rattle.rx_model.specs.declared.wire.TheConstants.{MIN_RTO_MS}
use Rattle.rx_rules.specs.CallLooks.{CallLooks}
use Rattle.rx_rules.specs.Sent.{Giving, Sent, given_of, greatest_given, last_giving, lowest_of}
use Rattle.rx_rules.specs.Setup.{Setup}
use Rattle.rx_closing.proofs.Ends.FrozenPolls.{has_ack, has_piece, has_ping, polls_same, same_lowest}
use Rattle.rx_closing.proofs.Ends.FrozenSteps.{none_given}
use Rattle.rx_closing.proofs.Ends.LoneEnd.{Lone, LoneRound, last_of, lone_falls, lone_owes, lone_pinged, lone_spoke}
use Rattle.rx_closing.proofs.Ends.LoneEnd.{moment_of, owes, owes_low, polls_again, turned}

-- ---- the lowest piece

same-last : (a b : CallLooks) → b.sent.givings ≡ a.sent.givings → lowest_of b.sent ≡ lowest_of a.sent
    → last_of b ≡ last_of a
same-last a b givings lowest = λ i. moment_of (last_giving (givings i) (lowest i))

module _ (s : Setup) (may : Bool) (e f : Lone) (r : LoneRound s may e f) where
  no-fresh : given_of r.polled.sent ≤ given_of e.end.sent
  no-fresh =
      (let given : given_of f.end.sent ≡ given_of r.polled.sent =
      ap (λ (gs : List Giving). greatest_given gs) (turned s may e f r).givings in
      let stood = r.stood.given in
      omega (arith, given, stood))

  last-turned : last_of f.end ≡ last_of r.polled
  last-turned =
      (let t = turned s may e f r in
      same-last r.polled f.end t.givings
      (same_lowest f.end.sent r.polled.sent t.acked t.soft (ap (λ (gs : List Giving). greatest_given gs) t.givings)))

  lone-again : has_piece r.out ≡ true → (last_of e.end + MIN_RTO_MS ≤ e.now) × (last_of f.end ≡ e.now)
  lone-again is =
      (let again = polls_again s e.now e.end r.out r.gave r.polled r.gives r.fit.steady no-fresh is in
      let due = again.0 in
      let slow = r.fit.slow in
      (omega (arith, due, slow), last-turned ∙ again.1))

  lone-last : has_piece r.out ≡ false → last_of f.end ≡ last_of e.end
  lone-last is =
      last-turned
      ∙ ap (λ (x : Sent). moment_of (last_giving x.givings (lowest_of x)))
      (polls_same s e.now e.end r.out r.gave r.polled r.gives is).sent

-- ---- its clock goes on for twelve seconds

-- the milliseconds that are left to its pings and to its lowest piece, and what it owes
abbrev pub wait_left : Lone → Lone → ℕ
wait_left z e =
    ((z.now + 12000) - max e.end.spoke (z.now - 2000)) + 6 * ((z.now + 12000) - max (last_of e.end) (z.now - 350))
    + owes e.end.owed_ack

-- at first it is no more than this
pub wait_most : (z : Lone) → wait_left z z ≤ 90100
wait_most z = (let owed = owes_low z.end.owed_ack in omega (arith, owed))

-- it falls in a round, where something was given
pub record Fallen (z e f : Lone) (Gives : Type 0) : Type 0 where
  pub low : wait_left z f ≤ wait_left z e
  pub less : Gives → wait_left z f + 2000 ≤ wait_left z e

-- while twelve seconds haven't passed
pub lone_pays : (s : Setup) (may : Bool) (z e f : Lone) (r : LoneRound s may e f) → z.now ≤ e.now
    → e.now < z.now + 12000 → Fallen z e f (r.out ≡ [] → ⊥)
lone_pays s may z e f r since soon = of (has_piece r.out) (has_ack r.out) (has_ping r.out) refl refl refl
  where
    owed : owes f.end.owed_ack ≤ owes e.end.owed_ack
    owed = lone_owes s may e f r

    spoke : e.end.spoke ≤ f.end.spoke
    spoke = lone_spoke s may e f r

    of : (a b c : Bool) → has_piece r.out ≡ a → has_ack r.out ≡ b → has_ping r.out ≡ c
        → Fallen z e f (r.out ≡ [] → ⊥)
    of true b c piece ack ping =
        (let again = lone-again s may e f r piece in
        let due = again.0 in
        let now = again.1 in
        let less : wait_left z f + 2000 ≤ wait_left z e = omega (arith, since, soon, owed, spoke, due, now) in
        record { low = omega (arith, less); less = λ gives. less })
    of false true true piece ack ping =
        (let last = lone-last s may e f r piece in
        let pinged = lone_pinged s may e f r ack ping in
        let due = pinged.0 in
        let now = pinged.1 in
        let less : wait_left z f + 2000 ≤ wait_left z e = omega (arith, since, soon, owed, last, due, now) in
        record { low = omega (arith, less); less = λ gives. less })
    of false true false piece ack ping =
        (let last = lone-last s may e f r piece in
        let falls = lone_falls s may e f r ack ping in
        let less : wait_left z f + 2000 ≤ wait_left z e = omega (arith, since, soon, falls, last, spoke) in
        record { low = omega (arith, less); less = λ gives. less })
    of false false c piece ack ping =
        (let last = lone-last s may e f r piece in
        record {
          low = omega (arith, owed, last, spoke);
          less = λ gives. absurd (gives (none_given r.out piece ack));
        })
