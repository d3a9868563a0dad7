-- Each event of a run is one that its line tells.
use Rattle.std.proofs.Common.{◌≡◌, ◌∙◌, ◌==◌, if◌then◌else◌, not, ℕ, zero, suc, Bool, true, false, List, [], ◌∷◌}
use Rattle.std.proofs.Common.{Option}
use Rattle.std.proofs.Common.{Some, None, refl, sym, subst, arith, slice_get, All, IfSome, IsSomeAnd, inl, inr}
use Rattle.std.proofs.lemmas.Bool.Decides.{nat_tests}
use Rattle.std.proofs.lemmas.List.Elements.{All-cons, All-head, All-nil, All-tail}
use Rattle.rx_model.specs.declared.event.Noted.{Noted}
use Rattle.rx_model.specs.Telling.{FitsEvent, IsTold, IsToldNoted}
use Rattle.rx_rules.specs.After.{looks}
use Rattle.rx_rules.specs.Rules.{Allowed, Legal}
use Rattle.rx_rules.specs.Setup.{Kind, Server, Client, IsServer, is_client}
use Rattle.rx_history.specs.Sides.{IsClientAt, Node, side}
use Rattle.rx_law.specs.Worlds.{AreNodes}
use Rattle.rx_law.proofs.LegalTold.{legal_told}
use Rattle.rx_jobs.specs.Handlers.{Handlers}
use Rattle.rx_script.specs.declared.outcome.Outcome.{Outcome}
use Rattle.rx_script.specs.declared.outcome.Outcome.TheVariants as outcomes
use Rattle.rx_script.specs.declared.plan.Numbered.{Numbered}
use Rattle.rx_plan.specs.Follows.{CutOff, Empty, EndlessIn, RefusedAt, Went, Whole}
use Rattle.rx_plan.specs.Promises.{AreInRange, plan_nodes}
use Rattle.rx_stage.specs.Runs.{RunIs, Tells}
use Rattle.rx_stage.specs.Tells.{Fails, FitsNoted, Gains, Told, Wants}
use Rattle.rx_stage.specs.Tells.{fails_last, fails_one, gains_none, gains_one, wants_last, wants_more, wants_one}
use Rattle.rx_plan.proofs.Allowed.{AreAllowed, legal_side}
use Rattle.rx_plan.proofs.Bags.{behind}
use Rattle.rx_plan.proofs.Soundness.SoundPlan.{Kept, plan_kept}

-- ---- what was told fits

gains_fit : {a b : Told} {es : List Noted} → Gains a b es → All FitsNoted es
gains_fit (gains_none a) = All-nil FitsNoted
gains_fit (gains_one a b c n es one rest) = All-cons FitsNoted n es one.fits (gains_fit rest)

wants_fit : {a b : Told} {es : List Noted} → Wants a b es → All FitsNoted es
wants_fit (wants_more a) = All-nil FitsNoted
wants_fit (wants_last a b n one) = All-cons FitsNoted n [] one.fits (All-nil FitsNoted)
wants_fit (wants_one a b c n es one rest) = All-cons FitsNoted n es one.fits (wants_fit rest)

fails_fit : {a b : Told} {es : List Noted} → Fails a b es → All FitsNoted es
fails_fit (fails_last a b n one) = All-cons FitsNoted n [] one.fits (All-nil FitsNoted)
fails_fit (fails_one a b c n es one rest) = All-cons FitsNoted n es one.fits (fails_fit rest)

tells_fit : (g : Handlers) (ls : List Numbered) (outcome : Outcome) (went : Went) (a b : Told) (es : List Noted)
    → Tells g ls outcome went a b es → All FitsNoted es
tells_fit g ls outcomes.Ran (Whole s) a b es tells = gains_fit tells.told
tells_fit g ls outcomes.Ran Empty a b es tells = gains_fit tells
tells_fit g ls (outcomes.Refused line why) (RefusedAt its cause) a b es tells = gains_fit tells.2
tells_fit g ls outcomes.SinkFault (Whole s) a b es tells = gains_fit tells.told
tells_fit g ls outcomes.SinkFault CutOff a b es tells = fails_fit tells
tells_fit g ls outcomes.OutOfMemory (Whole s) a b es tells = gains_fit tells.told
tells_fit g ls outcomes.OutOfMemory CutOff a b es tells = wants_fit tells
tells_fit g ls outcomes.OutOfMemory EndlessIn a b es tells = gains_fit tells
tells_fit g ls outcomes.Ran (RefusedAt its cause) a b es tells = elim tells [ ]
tells_fit g ls outcomes.Ran CutOff a b es tells = elim tells [ ]
tells_fit g ls outcomes.Ran EndlessIn a b es tells = elim tells [ ]
tells_fit g ls (outcomes.Refused line why) (Whole s) a b es tells = elim tells [ ]
tells_fit g ls (outcomes.Refused line why) Empty a b es tells = elim tells [ ]
tells_fit g ls (outcomes.Refused line why) CutOff a b es tells = elim tells [ ]
tells_fit g ls (outcomes.Refused line why) EndlessIn a b es tells = elim tells [ ]
tells_fit g ls outcomes.SinkFault Empty a b es tells = elim tells [ ]
tells_fit g ls outcomes.SinkFault (RefusedAt its cause) a b es tells = elim tells [ ]
tells_fit g ls outcomes.SinkFault EndlessIn a b es tells = elim tells [ ]
tells_fit g ls outcomes.OutOfMemory Empty a b es tells = elim tells [ ]
tells_fit g ls outcomes.OutOfMemory (RefusedAt its cause) a b es tells = elim tells [ ]

-- ---- what is allowed and fits is told

-- the events of a node fit
fits_side : (k : ℕ) (h : List Noted) → All FitsNoted h → All FitsEvent (side k h)
fits_side k [] fits = All-nil FitsEvent
fits_side k (e ∷ h) fits = of (e.node == k) (fits_side k h (All-tail FitsNoted e h fits))
  where
    of : (b : Bool) → All FitsEvent (side k h) → All FitsEvent (if b then e.event ∷ side k h else side k h)
    of false rest = rest
    of true rest = All-cons FitsEvent e.event (side k h) (All-head FitsNoted e h fits).event rest

is_later : (k : ℕ) → (suc k == 0) ≡ false
is_later k = grind (arith, nat_tests)

-- node 0 is a server, and every other a client
server_first : (nodes : List Node) → AreNodes nodes → (k : ℕ) (n : Node) → slice_get nodes k ≡ Some n
    → not (is_client n.setup.kind) ≡ (k == 0)
server_first nodes are zero n is =
    of n.setup.kind (subst (λ o. IsSomeAnd o (λ m. IsServer m.setup.kind)) is are.server)
  where
    of : (kind : Kind) → IsServer kind → not (is_client kind) ≡ true
    of (Server service nonces) server = refl
    of (Client host epoch) server = elim server [ ]
server_first nodes are (suc k) n is =
    of n.setup.kind (subst (λ o. IfSome o (λ m. IsClientAt m.host m.setup.kind)) is (are.clients k)) ∙ sym (is_later k)
  where
    of : (kind : Kind) → IsClientAt n.host kind → not (is_client kind) ≡ false
    of (Server service nonces) client = elim client [ ]
    of (Client host epoch) client = refl

told_event : (nodes : List Node) → AreNodes nodes → (e : Noted) (h : List Noted) → AreAllowed nodes (e ∷ h)
    → All FitsNoted (e ∷ h) → IsToldNoted e
told_event nodes are e h allowed fits = of (slice_get nodes e.node) refl allowed.0
  where
    of : (o : Option Node) → slice_get nodes e.node ≡ o
        → IsSomeAnd o (λ n. Allowed n.setup (looks n.setup (side e.node h)) e.event) → IsToldNoted e
    of None is none = elim none [ ]
    of (Some n) is here =
        (let own : FitsNoted e = All-head FitsNoted e h fits in
        let legal : Legal n.setup (e.event ∷ side e.node h) =
        (here, legal_side nodes h e.node n is allowed.1) in
        let fit : All FitsEvent (e.event ∷ side e.node h) =
        All-cons FitsEvent e.event (side e.node h) own.event
        (fits_side e.node h (All-tail FitsNoted e h fits)) in
        record {
          node = own.node;
          event = subst (λ b. IsTold b e.event) (server_first nodes are e.node n is)
              (All-head (IsTold (not (is_client n.setup.kind))) e.event (side e.node h)
              (legal_told n.setup (e.event ∷ side e.node h) legal fit));
        })

told_events : (nodes : List Node) → AreNodes nodes → (h : List Noted) → AreAllowed nodes h → All FitsNoted h
    → All IsToldNoted h
told_events nodes are [] allowed fits = All-nil IsToldNoted
told_events nodes are (e ∷ h) allowed fits =
    All-cons IsToldNoted e h (told_event nodes are e h allowed fits)
    (told_events nodes are h allowed.1 (All-tail FitsNoted e h fits))

-- ---- histories, the newest event first

all_behind : (P : Noted → Type 0) (es h : List Noted) → All P es → All P h → All P (behind es h)
all_behind P [] h these those = those
all_behind P (e ∷ es) h these those =
    all_behind P es (e ∷ h) (All-tail P e es these) (All-cons P e h (All-head P e es these) those)

of_behind : (P : Noted → Type 0) (es h : List Noted) → All P (behind es h) → All P es × All P h
of_behind P [] h all = (All-nil P, all)
of_behind P (e ∷ es) h all =
    (let both = of_behind P es (e ∷ h) all in
    (All-cons P e es (All-head P e h both.1) both.0, All-tail P e h both.1))

-- the events of a plan, where they fit
pub plan_told : (g : Handlers) (ls : List Numbered) (outcome : Outcome) (old new : Told) → AreInRange ls
    → (r : RunIs g ls outcome old new) → All IsToldNoted r.events
plan_told g ls outcome old new well r =
    of (tells_fit g ls outcome r.went old new r.events r.tells)
    (plan_kept ⊥ g ls r.events r.went (λ never. absurd never) well r.goes)
  where
    of : All FitsNoted r.events → Kept ⊥ (plan_nodes ls) r.events r.went → All IsToldNoted r.events
    of fits (inl none) = subst (All IsToldNoted) (sym none.0) (All-nil IsToldNoted)
    of fits (inr kept) =
        (of_behind IsToldNoted r.events [] (told_events (plan_nodes ls) kept.are (behind r.events [])
        kept.good.allowed (all_behind FitsNoted r.events [] fits (All-nil FitsNoted)))).0
