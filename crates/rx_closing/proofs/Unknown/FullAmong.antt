-- Where a message came to a server within rounds for which it had no place, that answer is among the rounds' events.
use Rattle.std.proofs.Common.{◌≡◌, ◌++◌, ◌+◌, ℕ, List, [], ◌∷◌, length, refl, ap, sym, ◌∙◌, arith}
use Rattle.rx_model.specs.declared.answers.Took.TheVariants as tooks
use Rattle.rx_model.specs.declared.event.Noted.{Noted}
use Rattle.rx_model.specs.declared.names.CallName.{CallName}
use Rattle.rx_rules.specs.Setup.{Setup}
use Rattle.rx_jobs.specs.Handlers.{Handlers}
use Rattle.rx_wire.specs.Turns.{noted}
use Rattle.rx_plan.specs.Parts.{To}
use Rattle.rx_plan.specs.Rounds.{rounds}
use Rattle.rx_plan.specs.Stages.{Stage}
use Rattle.rx_plan.proofs.Bags.{behind, behind_both}
use Rattle.rx_closing.specs.Silence.{CameAmong}
use Rattle.rx_closing.proofs.Messages.FullCame.{CameFull, came_since, came_till}
use Rattle.rx_closing.proofs.Rounds.Chains.{Adds}
use Rattle.rx_closing.proofs.Rounds.Tracks.{rounds_track, split_behind}

-- what stands behind the same events of as many is the same
same_behind : (xs ys g h : List Noted) → length xs ≡ length ys → behind xs g ≡ behind ys h → (xs ≡ ys) × (g ≡ h)
same_behind [] [] g h as_many same = (refl, same)
same_behind [] (y ∷ ys) g h as_many same = absurd (omega (arith, as_many))
same_behind (x ∷ xs) [] g h as_many same = absurd (omega (arith, as_many))
same_behind (x ∷ xs) (y ∷ ys) g h as_many same =
    (let rest = same_behind xs ys (x ∷ g) (y ∷ h) (omega (arith, as_many)) same in
    let first : x ≡ y = (let both : x ∷ g ≡ y ∷ h = rest.1 in cc (both)) in
    let others : g ≡ h = (let both : x ∷ g ≡ y ∷ h = rest.1 in cc (both)) in
    (ap (λ (z : Noted). z ∷ xs) first ∙ ap (λ (zs : List Noted). y ∷ zs) rest.0, others))

behind_long : (xs h : List Noted) → length (behind xs h) ≡ length xs + length h
behind_long [] h = omega arith
behind_long (x ∷ xs) h = (let more = behind_long xs (x ∷ h) in omega (arith, more))

-- the other way round
forth : List Noted → List Noted
forth [] = []
forth (x ∷ xs) = forth xs ++ x ∷ []

behind_forth : (xs h : List Noted) → behind (forth xs) h ≡ xs ++ h
unfolding forth
behind_forth [] h = refl
behind_forth (x ∷ xs) h =
    behind_both (forth xs) (x ∷ []) h ∙ ap (λ (zs : List Noted). x ∷ zs) (behind_forth xs h)

-- an event that stands behind a history is among the events with which it came to be
among_events : (fs h later mid : List Noted) (e : Noted) → behind fs h ≡ later ++ (e ∷ (mid ++ h))
    → fs ≡ forth mid ++ e ∷ forth later
among_events fs h later mid e is =
    (let other : behind (forth mid ++ e ∷ forth later) h ≡ later ++ (e ∷ (mid ++ h)) =
    split_behind (forth mid) e (forth later) h
    ∙ ap (λ (zs : List Noted). behind (forth later) (e ∷ zs)) (behind_forth mid h)
    ∙ behind_forth later (e ∷ (mid ++ h)) in
    let same : behind fs h ≡ behind (forth mid ++ e ∷ forth later) h = is ∙ sym other in
    let first = behind_long fs h in
    let second = behind_long (forth mid ++ e ∷ forth later) h in
    let long = ap (λ (zs : List Noted). length zs) same in
    (same_behind fs (forth mid ++ e ∷ forth later) h h (omega (arith, first, second, long)) same).0)

module _ (setup : Setup) (c : CallName) (g : Handlers) (n : ℕ) (fs : List Noted) (s t u v : Stage) where
  -- of rounds from one stage to another, between two moments of them
  pub full_among : rounds g n s fs (To t) → Adds s.history u.history → Adds v.history t.history
      → CameFull setup c u.history v.history → CameAmong 0 setup (λ got. got ≡ tooks.Full) c fs
  full_among made front back full =
      (let wide : CameFull setup c s.history t.history =
      came_since setup c s.history u.history t.history front.more front.is
      (came_till setup c u.history v.history t.history back.more back.is full) in
      record {
        before = forth wide.mid;
        event = wide.event;
        later = forth wide.later;
        are = among_events fs s.history wide.later wide.mid (noted 0 wide.event)
            (sym (rounds_track g n s fs t made) ∙ wide.are);
        comes = wide.comes;
      })
