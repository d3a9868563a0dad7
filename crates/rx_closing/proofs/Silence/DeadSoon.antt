-- A call of rounds behind a plan is found dead only in silence, where its client heard it soon before any stage at
-- which its server knew it behind the round in which it was heard, or didn't: these two are left.
use Rattle.std.proofs.Common.{◌≡◌, ◌≤◌, ◌⊎◌, ◌++◌, ◌+◌, ℕ, zero, suc, List, ◌∷◌, Option, Some, None, refl, ap, sym, ◌∙◌}
use Rattle.std.proofs.Common.{inl, inr, ⊎_elim, arith}
use Rattle.rx_model.specs.declared.event.Noted.{Noted}
use Rattle.rx_model.specs.declared.names.CallName.{CallName}
use Rattle.rx_rules.specs.Looks.{CallRecord}
use Rattle.rx_history.specs.Sides.{Node, moment}
use Rattle.rx_script.specs.declared.plan.Numbered.{Numbered}
use Rattle.rx_jobs.specs.Handlers.{Handlers}
use Rattle.rx_plan.specs.Stages.{Stage}
use Rattle.rx_rounds.proofs.Rounded.{RoundMade}
use Rattle.rx_closing.specs.Closing.{RoundsBehind}
use Rattle.rx_closing.specs.Silence.{DeadOneInSilence}
use Rattle.rx_closing.specs.Several.{DeadAllInSilence}
use Rattle.rx_closing.proofs.Frame.{served_in}
use Rattle.rx_closing.proofs.Rounds.Chains.{Adds, Chain, chain_adds, chain_more, chain_none}
use Rattle.rx_closing.proofs.Rounds.Clocks.{round_clock}
use Rattle.rx_closing.proofs.Rounds.HeardCuts.{two_cuts}
use Rattle.rx_closing.proofs.Rounds.StageAt.{NextRound, next_round, one_longer}
use Rattle.rx_closing.proofs.Silence.DeadHeard.{DeadHeard, FindsFull, GotFull, dead_all_from, dead_one_from}
use Rattle.rx_closing.proofs.Silence.DeadStops.{E, FoundIn, Stop, asked_at, asked_z, ends, found_at, heard_from}
use Rattle.rx_closing.proofs.Silence.DeadStops.{heard_low, its, lives_at, located, one_at, rounds_to, silent_z, those}
use Rattle.rx_closing.proofs.Telling.DoneLate.{IsDone, done_late}
use Rattle.rx_closing.proofs.Telling.DoneServed.{IsOpen, done_or_open}
use Rattle.rx_closing.proofs.Together.Members.{names_of}
use Rattle.rx_closing.proofs.Together.MembersHere.{AreSpacious}

module _ (g : Handlers) (ls : List Numbered) (n : ℕ) (s t : Stage) (b : RoundsBehind g ls n s t)
    (spacious : AreSpacious s) (c : CallName) (k : ℕ) (client : Node) (d : DeadHeard g ls n s t b c k client) where
  abbrev node : Node
  node = its g ls n s t b spacious c k client d

  abbrev last : Stage
  last = d.o.last

  abbrev Stops : Stage → Type 0
  Stops v = Stop g ls n s t b spacious c k client d v

  abbrev Full : Type 0
  Full = GotFull g ls n s t b c k client d

  abbrev heard_at : (v : Stage) → Stops v → ℕ
  heard_at v o = (asked_at g ls n s t b spacious c k client d v o).call.looks.heard

  abbrev Opens : Stage → Type 0
  Opens v = IsOpen c node v

  abbrev Dones : Stage → Type 0
  Dones v = IsDone c node v

  -- where the server doesn't know the call behind the round in which it was heard, it had no place for it, or the
  -- client heard not long before any stage at which its server doesn't know it or is at work with it
  abbrev pub IfUnknown : Type 0
  IfUnknown =
      (v : Stage) (o : Stops v) → Opens v → (f : FoundIn g ls n s t b spacious c k client d v)
      → served_in c node f.to ≡ None → Full ⊎ (moment (suc k) v.history ≤ heard_at v o + 5999)

  -- where it knows it, the client did
  abbrev pub IfKnown : Type 0
  IfKnown =
      (v : Stage) (o : Stops v) → Opens v → (f : FoundIn g ls n s t b spacious c k client d v) (y : CallRecord)
      → served_in c node f.to ≡ Some y → moment (suc k) v.history ≤ heard_at v o + 5999

  -- ---- a stage at which the server is done with it

  done_bound : (v : Stage) → Stops v → Dones v → moment (suc k) last.history ≤ moment (suc k) v.history + 4000
  done_bound v o done =
      done_late g ls b.servable (names_of (those g ls n s t b spacious c k client d).those) c k client node o.i v last
      (rounds_to g ls n s t b spacious c k client d v o) done

  -- ---- the round in which it came to be so

  record Turned : Type 0 where
    x : Stage
    w : Stage
    stop_x : Stops x
    stop_w : Stops w
    round : RoundMade g x w
    work : Opens x
    done : Dones w

  chain_zero : (u v : Stage) → Chain g 0 u v → v ≡ u
  chain_zero u v chain = of 0 u v refl chain
    where
      of : (i : ℕ) (a e : Stage) → i ≡ 0 → Chain g i a e → e ≡ a
      of i a e is (chain_none w) = refl
      of i a e is (chain_more m x y w r rest) = absurd (let no : ⊥ = omega (arith, is) in no)

  turned : (i m : ℕ) (u : Stage) → Chain g m s u → Chain g i u last → Opens u → Dones last → Turned
  turned zero m u front rest work done =
      absurd (let same = chain_zero u last rest in
      let there : served_in c node u ≡ Some done.call = ap (λ (v : Stage). served_in c node v) (sym same)
      ∙ done.there in
      let active = work done.call there in
      let idle = done.idle in
      let no = sym idle ∙ active in cc (no))
  turned (suc i) m u front rest work done =
      of (λ works. turned i (m + 1) q.between further q.others works done) (done_or_open c node q.between)
    where
      q : NextRound g i u last
      q = next_round g i u last rest

      further : Chain g (m + 1) s q.between
      further = one_longer g m s u q.between front q.first

      stop : Stops q.between
      stop = record { m = m + 1; i = i; front = further; rest = q.others }

      of : (Opens q.between → Turned) → Dones q.between ⊎ Opens q.between → Turned
      of again (inl now) =
          record {
            x = u;
            w = q.between;
            stop_x = record { m = m; i = suc i; front = front; rest = rest };
            stop_w = stop;
            round = q.first;
            work = work;
            done = now;
          }
      of again (inr works) = again works

  -- a round moves the clocks by 2,000 ms at most
  round_bound : (x w : Stage) → Stops x → Stops w → RoundMade g x w
      → moment (suc k) w.history ≤ moment (suc k) x.history + 2000
  round_bound x w o p r =
      round_clock c k client node g x w r (one_at g ls n s t b spacious c k client d w p)
      (lives_at g ls n s t b spacious c k client d x o) (lives_at g ls n s t b spacious c k client d w p) (suc k)

  -- ---- all of it

  module _ (unknown : IfUnknown) (known : IfKnown) where
    soon : (v : Stage) (o : Stops v) → Opens v → (part : List Noted)
        → v.history ≡ part ++ (E g ls n s t b spacious c k client d ∷ d.before)
        → Full ⊎ (moment (suc k) v.history ≤ heard_at v o + 5999)
    soon v o work part cut = of (served_in c node f.to) refl
      where
        f : FoundIn g ls n s t b spacious c k client d v
        f = found_at g ls n s t b spacious c k client d v o part cut

        of : (q : Option CallRecord) → served_in c node f.to ≡ q
            → Full ⊎ (moment (suc k) v.history ≤ heard_at v o + 5999)
        of None is = unknown v o work f is
        of (Some y) is = inr (known v o work f y is)

    stop_last : Stops last
    stop_last = record { m = d.o.many; i = 0; front = d.o.front; rest = chain_none last }

    stop_first : Stops s
    stop_first = record { m = 0; i = d.o.many; front = chain_none s; rest = d.o.front }

    cut_last : (part : List Noted) × (last.history ≡ part ++ (E g ls n s t b spacious c k client d ∷ d.before))
    cut_last = located g ls n s t b spacious c k client d

    abbrev heard_z : ℕ
    heard_z = (asked_z g ls n s t b spacious c k client d).call.looks.heard

    since : (u : Stage) → Adds u.history d.before → moment (suc k) u.history ≤ heard_z
    since u a =
        heard_from g ls n s t b spacious c k client d u last (ends g ls n s t b spacious c k client d) cut_last.0
        cut_last.1 a (asked_z g ls n s t b spacious c k client d).call
        (asked_z g ls n s t b spacious c k client d).there

    late : heard_z + 12000 ≤ moment (suc k) last.history
    late = silent_z g ls n s t b spacious c k client d

    by_turn : Turned → Full
    by_turn y =
        (let a = chain_adds g y.stop_x.i y.x last y.stop_x.rest in
        ⊎_elim
        (λ (p : (part : List Noted) × (y.x.history ≡ part ++ (E g ls n s t b spacious c k client d ∷ d.before))).
        ⊎_elim (λ (full : Full). full)
        (λ (low : moment (suc k) y.x.history ≤ heard_at y.x y.stop_x + 5999). absurd (
        let up = heard_low g ls n s t b spacious c k client d y.x y.stop_x in
        let one = round_bound y.x y.w y.stop_x y.stop_w y.round in
        let rest = done_bound y.w y.stop_w y.done in
        let long = late in
        omega (arith, low, up, one, rest, long))) (soon y.x y.stop_x y.work p.0 p.1))
        (λ (behind : Adds y.x.history d.before). absurd (
        let up = since y.x behind in
        let one = round_bound y.x y.w y.stop_x y.stop_w y.round in
        let rest = done_bound y.w y.stop_w y.done in
        let long = late in
        omega (arith, up, one, rest, long)))
        (two_cuts a.more y.x.history cut_last.0 d.before (E g ls n s t b spacious c k client d)
        (sym a.is ∙ cut_last.1)))

    pub full_then : Full
    full_then = of (done_or_open c node last)
      where
        of : Dones last ⊎ Opens last → Full
        of (inr work) =
            ⊎_elim (λ (full : Full). full)
            (λ (low : moment (suc k) last.history ≤ heard_at last stop_last + 5999). absurd (
            let up = heard_low g ls n s t b spacious c k client d last stop_last in
            let long = late in
            omega (arith, low, up, long))) (soon last stop_last work cut_last.0 cut_last.1)
        of (inl done) =
            ⊎_elim
            (λ (first : Dones s). absurd (
            let rest = done_bound s stop_first first in
            let up = since s d.since in
            let long = late in
            omega (arith, rest, up, long)))
            (λ (work : Opens s). by_turn (turned d.o.many 0 s (chain_none s) d.o.front work done))
            (done_or_open c node s)

-- what is left to be shown of each
pub record HearsSoon : Type 0 where
  pub unknown :
      (g : Handlers) (ls : List Numbered) (n : ℕ) (s t : Stage) (b : RoundsBehind g ls n s t) (spacious : AreSpacious s)
      (c : CallName) (k : ℕ) (client : Node) (d : DeadHeard g ls n s t b c k client)
      → IfUnknown g ls n s t b spacious c k client d
  pub known :
      (g : Handlers) (ls : List Numbered) (n : ℕ) (s t : Stage) (b : RoundsBehind g ls n s t) (spacious : AreSpacious s)
      (c : CallName) (k : ℕ) (client : Node) (d : DeadHeard g ls n s t b c k client)
      → IfKnown g ls n s t b spacious c k client d

finds : HearsSoon → FindsFull
finds soon g ls n s t b spacious c k client d =
    full_then g ls n s t b spacious c k client d (soon.unknown g ls n s t b spacious c k client d)
    (soon.known g ls n s t b spacious c k client d)

-- so the promises hold
pub dead_all : HearsSoon → DeadAllInSilence
dead_all soon = dead_all_from (finds soon)

pub dead_one : HearsSoon → DeadOneInSilence
dead_one soon = dead_one_from (finds soon)
