-- The start of the rounds: nothing is due, and then the caller says its request as far as there is room.
use Rattle.std.proofs.Common.{◌≡◌, ◌<◌, ◌≤◌, inr, ⊎_elim, ◌+◌, ◌*◌, ◌++◌, ◌==◌, max, ℕ, Bool, true, false, List, []}
use Rattle.std.proofs.Common.{◌∷◌, refl, ap, sym, subst, ◌∙◌, length, arith, append-nil}
use Rattle.rx_rules.specs.CallItems.{can_give}
use Rattle.rx_rules.specs.CallLooks.{CallLooks}
use Rattle.rx_rules.specs.Looks.{Looks}
use Rattle.rx_rules.specs.Sent.{counting_by}
use Rattle.rx_asks.specs.declared.ask.Phase.TheVariants as phases
use Rattle.rx_jobs.specs.Handlers.{Handlers}
use Rattle.rx_plan.specs.Network.{delivers}
use Rattle.rx_plan.specs.Parts.{To, each}
use Rattle.rx_plan.specs.Stages.{InvokedState, Stage}
use Rattle.rx_law.specs.Worlds.{Datagram}
use Rattle.rx_rounds.proofs.Between.{caller_with, client_at}
use Rattle.rx_rounds.proofs.Serving.SendsLaws.{must_go}
use Rattle.rx_rounds.proofs.Exchange.{none_due}
use Rattle.rx_rounds.proofs.Making.{ends_to}
use Rattle.rx_rounds.proofs.One.OneCall.{Ends}
use Rattle.rx_rounds.proofs.One.OneFields.{fresh}
use Rattle.rx_rounds.proofs.One.OneSteps.{empty_at}
use Rattle.rx_rounds.proofs.One.OneWay.{Sends}
use Rattle.rx_rounds.proofs.Pair.{CallEnd}
use Rattle.rx_rounds.proofs.Replies.ReplyMoments.{in_piece}
use Rattle.rx_rounds.proofs.RoundParts.{client_polled, idle_dispatch}
use Rattle.rx_rounds.proofs.Rounded.{Made, RoundMade, caller_at}
use Rattle.rx_rounds.proofs.Serving.SaidMore.{said_more}
use Rattle.rx_rounds.proofs.Serving.SaysOn.{SaidOn, says_on}
use Rattle.rx_rounds.proofs.Settle.{client_moments, end_moments, settles_two}
use Rattle.rx_rounds.proofs.Two.{Two}

-- a call of which nothing was said
pub sends_fresh : (request : List ℕ) → Sends request 0 0 0 fresh
sends_fresh request =
    record {
      acked = refl;
      given = refl;
      marked = λ j past. refl;
      peer = refl;
      known = omega arith;
      near = omega arith;
      counted = omega arith;
      rest = request;
      said = refl;
      shut = λ yes. absurd cc;
      held = omega arith;
      rates = record { wide = omega arith; most = refl; steady = refl; even = refl; slow = omega arith };
      recent = λ j low high. absurd (omega arith);
    }

module _ (x : Ends) (g : Handlers) (request : List ℕ) (call line : ℕ) (some : 0 < length request) where
  abbrev caller : InvokedState
  caller = caller_at call line (caller_with x request false [] phases.Resting)

  -- the first round
  pub record Started (t : Stage) : Type 0 where
    pub used : ℕ
    pub said : SaidOn x request call line 0 0 used 0 0 0 (empty_at 0) [] fresh t
    pub can : can_give (said_more said.more said.shut fresh).cwnd (said_more said.more said.shut fresh).sent ≡ true

  pub starts : (u t : Stage) → Two x (empty_at 0) (client_at x 0 0 [] 0 fresh) (caller ∷ []) [] u → RoundMade g u t
      → Started t
  starts u t two m =
      let e : CallEnd = record { looks = fresh; given = 0 } in
      let p = client_polled x 0 (caller ∷ []) [] [] e e [] (none_due e refl) tt refl 0 u m.polled two m.polls_are in
      let all : Made (each delivers []) m.polled.stage m.delivered = (
        m.delivers_are.0,
        subst (λ (ds : List Datagram). each delivers ds m.polled.stage m.delivers_are.0 (To m.delivered)) p.0
            m.delivers_are.1,
      ) in
      let same : m.delivered ≡ m.polled.stage = ends_to m.polled.stage m.delivered all.0 all.1 in
      let lc : Looks = client_at x 0 p.1.0 [] 0 fresh in
      let two1 : Two x (empty_at 0) lc (caller ∷ []) [] m.delivered =
      subst (λ (s : Stage). Two x (empty_at 0) lc (caller ∷ []) [] s) (sym same) p.1.1 in
      let two2 = idle_dispatch x g (empty_at 0) lc (caller ∷ []) m.delivered m.served two1 refl m.serves_are in
      let o = says_on x request call line false 0 0 p.1.0 0 0 0 (empty_at 0) [] fresh request phases.Resting m.served
      m.called (sends_fresh request) refl refl refl (λ yes. absurd cc) (omega arith) two2 m.calls_are in
      by p.1.0 o
    where
      by : (used : ℕ) → SaidOn x request call line 0 0 used 0 0 0 (empty_at 0) [] fresh m.called → Started t
      by used o =
          let kc : CallLooks = said_more o.more o.shut fresh in
          let can : can_give kc.cwnd kc.sent ≡ true = must_go request 0 0 0 kc o.up refl counts in
          let r = settles_two x (empty_at 0) (client_at x 0 used [] 0 kc)
          (caller_at call line (caller_with x o.offering o.shut [] phases.Resting) ∷ []) [] 0 [] (end_moments true kc)
          refl refl refl (client_moments x [] 0 used 0 kc refl) 0 (in_piece true kc can) (omega arith) (omega arith)
          (length m.polled.given == 0) m.called t o.two m.settles_are in
          let low : r.then_now ≤ max 0 0 = r.near 0 (inr (in_piece true kc can)) in
          let zero_ : r.then_now ≡ 0 = omega arith in
          record {
            used = used;
            said = record {
              more = o.more;
              offering = o.offering;
              shut = o.shut;
              up = o.up;
              offers = o.offers;
              out = o.out;
              two = subst (λ (n : ℕ). Two x (empty_at n) (client_at x 0 used [] n kc)
                  (caller_at call line (caller_with x o.offering o.shut [] phases.Resting) ∷ []) [] t) zero_ r.two;
            };
            can = can;
          }
        where
          counts : 0 < counting_by (length o.more) o.shut
          counts = of o.shut refl
            where
              long : length request ≡ length (o.more ++ o.offering)
              long = ap (λ (ys : List ℕ). length ys) o.offers

              of : (b : Bool) → o.shut ≡ b → 0 < counting_by (length o.more) b
              of true is = ⊎_elim
                  (λ (w : (o.offering ≡ []) × (o.shut ≡ true)).
                  (let same : length request ≡ length o.more =
                  long ∙ ap (λ (ys : List ℕ). length (o.more ++ ys)) w.0 ∙ ap (λ (ys : List ℕ). length ys)
                  (append-nil o.more) in omega arith))
                  (λ (w : (o.shut ≡ false) × (0 < length o.offering) × (length o.more ≡ 1412 * (0 + 32))).
                  (let full : length o.more ≡ 1412 * (0 + 32) = w.2 in omega arith)) o.out
              of false is = ⊎_elim
                  (λ (w : (o.offering ≡ []) × (o.shut ≡ true)). absurd cc)
                  (λ (w : (o.shut ≡ false) × (0 < length o.offering) × (length o.more ≡ 1412 * (0 + 32))).
                  (let full : length o.more ≡ 1412 * (0 + 32) = w.2 in omega arith)) o.out
