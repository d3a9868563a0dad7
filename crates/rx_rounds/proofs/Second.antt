-- The second round of an invoke: its first pieces come to a server that didn't know the call, and its handler begins.
use Rattle.std.proofs.Common.{◌≡◌, ◌≢◌, ◌<◌, ◌≤◌, inl, ⊎_elim, ◌+◌, ◌*◌, ◌==◌, ◌++◌, ℕ, ℤ, pos, true, false, List, []}
use Rattle.std.proofs.Common.{◌∷◌, refl, ap}
use Rattle.std.proofs.Common.{sym, subst, ◌∙◌, None, length, arith}
use Rattle.std.proofs.lemmas.Bool.{both_ways, ne_eqb}
use Rattle.rx_model.specs.Message.{IsBytes}
use Rattle.rx_rules.specs.CallLooks.{CallLooks}
use Rattle.rx_rules.specs.Life as lives
use Rattle.rx_rules.specs.Looks.{Looks}
use Rattle.rx_script.specs.Served.{refusal}
use Rattle.rx_asks.specs.declared.ask.Phase.TheVariants as phases
use Rattle.rx_jobs.specs.Handlers.{Handlers, served_for}
use Rattle.rx_plan.specs.Stages.{InvokedState, Stage}
use Rattle.rx_rounds.proofs.Between.{caller_with, client_at}
use Rattle.rx_rounds.proofs.Arriving.FirstCame.{FirstCame, first_comes}
use Rattle.rx_rounds.proofs.Flow.{total}
use Rattle.rx_rounds.proofs.One.OneCall.{Ends, Link, node_of, open_link, the_call}
use Rattle.rx_rounds.proofs.One.OneFields.{FitsEnds, fresh}
use Rattle.rx_rounds.proofs.Reading.ReadOn.{begins_read}
use Rattle.rx_rounds.proofs.Reading.ReadsNext.{Came, TurnsNext, turns_next}
use Rattle.rx_rounds.proofs.Rounded.{RoundMade, caller_at, settles_not}
use Rattle.rx_rounds.proofs.Serving.ServeTurns.{turn_begins}
use Rattle.rx_rounds.proofs.Starts.{Started}
use Rattle.rx_rounds.proofs.Takes.Taking.{came_behind}
use Rattle.rx_rounds.proofs.Two.{AreApart, Two}

module _ (x : Ends) (g : Handlers) (fits : FitsEnds x) (apart : AreApart x) (open_ : x.key ≡ None) (request : List ℕ)
    (call line : ℕ) (small : total request ≤ 1000000) (are_bytes : IsBytes request)
    (coded : (code : ℤ) → served_for g request ≡ refusal code → code ≢ pos 0) (some : 0 < length request) (s t : Stage)
    (first : Started x g request call line some s) (m : RoundMade g s t) where
  abbrev f : FirstCame x g fits apart request call line small first.used s t first.said first.can m
  f = first_comes x g fits apart request call line small first.used s t first.said first.can m

  abbrev ks : CallLooks
  ks = came_behind false 0 request [] f.last f.owed fresh

  abbrev lc : Looks
  lc = client_at x f.gc f.uc [] 0 f.kc2

  abbrev cs : List InvokedState
  cs = caller_at call line (caller_with x first.said.offering first.said.shut [] phases.Resting) ∷ []

  still : t ≡ m.called
  still = settles_not m.called t (length m.polled.given == 0)
      (ne_eqb (length m.polled.given) 0 (λ (z : length m.polled.given ≡ 0). (let loud : 1 ≤ length m.polled.given =
      f.loud in omega arith))) m.settles_are

  came : Came x request 0 0 f.last 0 f.kc2 ks first.said.offering first.said.shut
  came =
      record {
        known = f.some;
        within = f.within;
        less = (let one : 1 ≤ f.last = f.some in omega arith);
        up = f.up;
        quiet = f.quiet;
        none = f.none;
        offers = first.said.offers ∙ ap (λ (ys : List ℕ). ys ++ first.said.offering) (sym f.said);
        closed = f.shut;
        done = λ closed. ⊎_elim
            (λ (w : (first.said.offering ≡ []) × (first.said.shut ≡ true)). w.0)
            (λ (w : (first.said.shut ≡ false) × (0 < length first.said.offering)
            × (length first.said.more ≡ 1412 * (0 + 32))). absurd (both_ways first.said.shut w.0 closed))
            first.said.out;
        new = refl;
        steady = record { wide = omega arith; most = refl; steady = refl; even = refl; slow = omega arith };
        plain = f.plain;
        late = (let soon : f.owed.rank ≤ 100 = f.soon in omega arith);
        owes = inl (let soon : f.owed.rank ≤ 100 = f.soon in omega arith);
        heard = refl;
        past = omega arith;
        soon = omega arith;
        spoke = f.spoke;
        touch = omega arith;
      }

  turned : TurnsNext x g request call line 0 0 f.last m.called
  turned =
      turns_next x g request call line small 0 0 f.last 0 f.gc f.uc 0 f.us f.kc2 ks first.said.offering first.said.shut
      phases.Resting came m.served m.called m.calls_are
      (turn_begins x g request lc cs 0 0 f.us f.last f.last ks [] m.delivered m.served are_bytes coded refl f.within
      refl
      (begins_read request 0 f.last f.last ks [] 0 refl (omega arith) refl refl)
      (subst (λ (l : Link). Two x (node_of x l (the_call x ∷ []) 0 lives.Waiting ks) lc cs [] m.delivered)
      (open_link x 0 f.us open_) f.two) m.serves_are)

  pub second : (last : ℕ) × (1 ≤ last) × TurnsNext x g request call line 0 0 last t
  second = (f.last, f.some, subst (TurnsNext x g request call line 0 0 f.last) (sym still) turned)
