-- What each event of a round leaves holds at each moment within the round, so within its deliveries too: no calls live
-- but some, with room for them.
use Rattle.std.proofs.Common.{◌≡◌, ◌++◌, ℕ, List, [], ◌∷◌, Some, length, length-append, ap, subst, ◌∙◌, refl, arith}
use Rattle.std.specs.Prelude.{slice_get}
use Rattle.rx_model.specs.declared.event.Event.TheVariants as events
use Rattle.rx_model.specs.declared.event.Noted.{Noted}
use Rattle.rx_model.specs.declared.names.CallName.{CallName}
use Rattle.rx_rules.specs.After.{looks}
use Rattle.rx_history.specs.Sides.{Node, side}
use Rattle.rx_law.specs.Worlds.{Datagram}
use Rattle.rx_jobs.specs.Handlers.{Handlers}
use Rattle.rx_plan.specs.Stages.{Stage}
use Rattle.rx_rounds.proofs.Rounded.{RoundMade}
use Rattle.rx_wire.specs.Turns.{noted}
use Rattle.rx_closing.proofs.Frame.{AreAmong, Crowd}
use Rattle.rx_closing.proofs.Living.CrowdRounds.{IsCrowd, IsSome, among_at, crowd_carried}
use Rattle.rx_closing.proofs.Living.Crowds.{crowd_now}
use Rattle.rx_closing.proofs.Rounds.Chains.{Adds, adds_none, adds_one}
use Rattle.rx_closing.proofs.Rounds.RoundEvents.{Carries, RoundHolds, round_holds}

-- it holds at each moment since one
pub record AllSince (P : List Noted → Type 0) (from h : List Noted) : Type 0 where
  pub since : Adds from h
  pub each : (i : List Noted) → Adds from i → Adds i h → P i

none_added : (xs ys h : List Noted) → h ≡ xs ++ (ys ++ h) → xs ≡ []
none_added [] ys h is = refl
none_added (x ∷ xs) ys h is =
    absurd (let size : length h ≡ length ((x ∷ xs) ++ (ys ++ h)) = ap (λ (es : List Noted). length es) is in
    let one = length-append (x ∷ xs) (ys ++ h) in
    let two = length-append ys h in
    omega (arith, size, one, two))

pub since_first : (P : List Noted → Type 0) (h : List Noted) → P h → AllSince P h h
since_first P h here =
    record {
      since = adds_none h;
      each = λ i a b. subst P (same i a b) here;
    }
  where
    same : (i : List Noted) → Adds h i → Adds i h → h ≡ i
    same i a b =
        (let whole : h ≡ b.more ++ (a.more ++ h) =
        b.is ∙ ap (λ (es : List Noted). b.more ++ es) a.is in
        b.is ∙ ap (λ (es : List Noted). es ++ i) (none_added b.more a.more h whole))

since_more : (P : List Noted → Type 0) (from h : List Noted) (e : Noted) → AllSince P from h → P (e ∷ h)
    → AllSince P from (e ∷ h)
since_more P from h e all here =
    record { since = adds_one from h e all.since; each = λ i a b. of i a b.more b.is }
  where
    of : (i : List Noted) → Adds from i → (more : List Noted) → e ∷ h ≡ more ++ i → P i
    of i a [] is = subst P is here
    of i a (x ∷ more) is =
        (let rest : h ≡ more ++ i = cc (is) in all.each i a (record { more = more; is = rest }))

-- so it is carried
pub since_carried : (nodes : List Node) (D : List Noted → Datagram → Type 0) (P : List Noted → Type 0)
    (from : List Noted) → Carries nodes D P → Carries nodes D (AllSince P from)
since_carried nodes D P from c =
    record {
      stays = c.stays;
      polls = λ h node n got next all.
          since_more P from h (noted node (events.Polled got)) all (c.polls h node n got next (last h all));
      gives = λ h node n to bytes next all. c.gives h node n to bytes next (last h all);
      takes = λ h node n d e next is to there all.
          since_more P from h (noted node e) all (c.takes h node n d e next is to there (last h all));
      clocks = λ h node n now e next is all.
          since_more P from h (noted node e) all (c.clocks h node n now e next is (last h all));
      serves = λ h n a e next is all. since_more P from h (noted 0 e) all (c.serves h n a e next is (last h all));
      calls = λ h node n a e next is all.
          since_more P from h (noted node e) all (c.calls h node n a e next is (last h all));
    }
  where
    last : (h : List Noted) → AllSince P from h → P h
    last h all = all.each h all.since (adds_none h)

-- at each moment of a round no calls live at a node but these
pub crowd_within : (cs : List CallName) (s : Stage) → Crowd cs s → (g : Handlers) (t : Stage) → RoundMade g s t
    → (h : List Noted) → Adds s.history h → Adds h t.history → (j : ℕ) (n : Node) → slice_get s.nodes j ≡ Some n
    → AreAmong cs (looks n.setup (side j h))
crowd_within cs s z g t r h front back j n there =
    among_at s.nodes z.world.sides.nodes_are cs h j n there (b.over.so.each h front back)
  where
    Those : List Noted → Type 0
    Those i = IsCrowd s.nodes z.world.sides.nodes_are cs i

    Said : List Noted → Datagram → Type 0
    Said i d = IsSome s.nodes z.world.sides.nodes_are cs i d

    b : RoundHolds s.nodes Said (AllSince Those s.history) g s t r
    b =
        round_holds s.nodes Said (AllSince Those s.history)
        (since_carried s.nodes Said Those s.history (crowd_carried s.nodes z.world.sides.nodes_are cs)) g s t r
        (record { nodes_are = refl; so = since_first Those s.history (crowd_now cs s z).so })
