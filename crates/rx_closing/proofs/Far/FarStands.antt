-- Between two moments a call is further, or each part of how far it is stands as it was: at one end, and at both ends
-- of a stage.
use Rattle.std.proofs.Common.{◌≡◌, ◌≤◌, ◌+◌, ◌++◌, ℕ, suc, Bool, true, false, List, length, Option, Some, None, refl}
use Rattle.std.proofs.Common.{◌∙◌, ap, sym, subst, inl, inr, arith}
use Rattle.rx_model.specs.declared.event.Event.{Event}
use Rattle.rx_model.specs.declared.event.Noted.{Noted}
use Rattle.rx_model.specs.declared.names.CallName.{CallName}
use Rattle.rx_model.specs.Names.{connection_of}
use Rattle.rx_rules.specs.After.{looks}
use Rattle.rx_rules.specs.Life.{Life}
use Rattle.rx_rules.specs.Looks.{CallRecord, call_at}
use Rattle.rx_rules.specs.Received.{front_of, used_of}
use Rattle.rx_rules.specs.Rules.{Legal}
use Rattle.rx_rules.specs.Sent.{counting_by, counting_of, given_of, pieces_by, pieces_of}
use Rattle.rx_history.specs.Sides.{Node, side}
use Rattle.rx_history.specs.Starts.{StartsOnce}
use Rattle.rx_law.specs.Promises.{ends_in}
use Rattle.rx_law.proofs.Joint.{Fed}
use Rattle.rx_between.specs.Told.{Grows}
use Rattle.rx_between.proofs.LawsTrue.{fed_in}
use Rattle.rx_plan.specs.Stages.{Stage}
use Rattle.rx_closing.proofs.Far.FarGrows.{Further, FurtherOf, GoesOn, further_on}
use Rattle.rx_closing.proofs.Far.FarParts.{Advances, StayKept}
use Rattle.rx_closing.proofs.Frame.{OneOf, asked_in, far, far_of, flag, rank_of, served_in}
use Rattle.rx_law.proofs.Law.{side-split}

-- ---- numbers alone

-- eight numbers that are no less come to the same only where each is the same
record AreSame (p g k f u s e l q h m o v t d n : ℕ) : Type 0 where
  first : q ≡ p
  second : h ≡ g
  third : m ≡ k
  fourth : o ≡ f
  fifth : v ≡ u
  sixth : t ≡ s
  seventh : d ≡ e
  eighth : n ≡ l

module _ (p g k f u s e l q h m o v t d n : ℕ) where
  are_same : p ≤ q → g ≤ h → k ≤ m → f ≤ o → u ≤ v → s ≤ t → e ≤ d → l ≤ n
      → p + g + k + f + u + s + e + l ≡ q + h + m + o + v + t + d + n → AreSame p g k f u s e l q h m o v t d n
  are_same a1 a2 a3 a4 a5 a6 a7 a8 sum =
      record {
        first = omega arith;
        second = omega arith;
        third = omega arith;
        fourth = omega arith;
        fifth = omega arith;
        sixth = omega arith;
        seventh = omega arith;
        eighth = omega arith;
      }

  eight_low : p ≤ q → g ≤ h → k ≤ m → f ≤ o → u ≤ v → s ≤ t → e ≤ d → l ≤ n
      → p + g + k + f + u + s + e + l ≤ q + h + m + o + v + t + d + n
  eight_low a1 a2 a3 a4 a5 a6 a7 a8 = omega arith

-- ---- at one end

pub rank_low : (x y : Life) → GoesOn x y → rank_of x ≤ rank_of y
rank_low x y (inl same) = (let is = ap rank_of same in omega arith)
rank_low x y (inr later) = (let less = later.rank in omega (arith, less))

life_stands : (x y : Life) → GoesOn x y → rank_of y ≡ rank_of x → y ≡ x
life_stands x y (inl same) rank = same
life_stands x y (inr later) rank = absurd (let less = later.rank in omega (arith, less, rank))

flag_stands : (a b : Bool) → flag b ≡ flag a → b ≡ a
flag_stands true true same = refl
flag_stands false false same = refl
flag_stands true false same = absurd (omega arith)
flag_stands false true same = absurd (omega arith)

far_grows : (a b : CallRecord) → Further a b → far a ≤ far b
far_grows a b f =
    let x : Advances a.looks b.looks = f.end in
    eight_low (pieces_of a.looks.sent) (given_of a.looks.sent) a.looks.sent.acked (front_of a.looks.received.kept)
    (used_of a.looks.received) (flag a.looks.sent.shut) (flag a.looks.received.ended) (rank_of a.life)
    (pieces_of b.looks.sent) (given_of b.looks.sent) b.looks.sent.acked (front_of b.looks.received.kept)
    (used_of b.looks.received) (flag b.looks.sent.shut) (flag b.looks.received.ended) (rank_of b.life)
    x.pieces x.given x.acked x.front x.used x.shut x.ended (rank_low a.life b.life f.life)

-- a call that is further is no less far
pub far_low : (a b : Option CallRecord) → FurtherOf a b → far_of a ≤ far_of b
far_low None b further = omega arith
far_low (Some a) None further = absurd further
far_low (Some a) (Some b) further = (let low = far_grows a b further in omega (arith, low))

-- as many pieces count where as many stand
counting_stands : (n m : ℕ) (shut : Bool) → pieces_by m shut ≡ pieces_by n shut
    → counting_by m shut ≡ counting_by n shut
counting_stands n m true same = same
counting_stands n m false same = omega (arith, same)

-- each part of a call stands as it was, and its life does, with its code
pub record StandsAt (a b : CallRecord) : Type 0 where
  pub name : b.name ≡ a.name
  pub pieces : pieces_of b.looks.sent ≡ pieces_of a.looks.sent
  pub counting : counting_of b.looks.sent ≡ counting_of a.looks.sent
  pub given : given_of b.looks.sent ≡ given_of a.looks.sent
  pub acked : b.looks.sent.acked ≡ a.looks.sent.acked
  pub front : front_of b.looks.received.kept ≡ front_of a.looks.received.kept
  pub used : used_of b.looks.received ≡ used_of a.looks.received
  pub shut : b.looks.sent.shut ≡ a.looks.sent.shut
  pub ended : b.looks.received.ended ≡ a.looks.received.ended
  pub life : b.life ≡ a.life
  pub grows : Grows a.looks.received b.looks.received
  pub kept : StayKept a.looks.received b.looks.received

-- of a call that is looked for: it is at neither moment, or at both
abbrev pub StandsOf : Option CallRecord → Option CallRecord → Type 0
StandsOf None None = Unit {0}
StandsOf None (Some b) = ⊥
StandsOf (Some a) None = ⊥
StandsOf (Some a) (Some b) = StandsAt a b

stands_both : (a b : CallRecord) → Further a b → far a ≡ far b → StandsAt a b
stands_both a b f same =
    let x : Advances a.looks b.looks = f.end in
    let s = are_same (pieces_of a.looks.sent) (given_of a.looks.sent) a.looks.sent.acked
    (front_of a.looks.received.kept) (used_of a.looks.received) (flag a.looks.sent.shut) (flag a.looks.received.ended)
    (rank_of a.life) (pieces_of b.looks.sent) (given_of b.looks.sent) b.looks.sent.acked
    (front_of b.looks.received.kept) (used_of b.looks.received) (flag b.looks.sent.shut) (flag b.looks.received.ended)
    (rank_of b.life) x.pieces x.given x.acked x.front x.used x.shut x.ended (rank_low a.life b.life f.life) same in
    let shut : b.looks.sent.shut ≡ a.looks.sent.shut = flag_stands a.looks.sent.shut b.looks.sent.shut s.sixth in
    record {
      name = f.name;
      pieces = s.first;
      counting = ap (counting_by (length b.looks.sent.said)) shut
          ∙ counting_stands (length a.looks.sent.said) (length b.looks.sent.said) a.looks.sent.shut
          (ap (pieces_by (length b.looks.sent.said)) (sym shut) ∙ s.first);
      given = s.second;
      acked = s.third;
      front = s.fourth;
      used = s.fifth;
      shut = shut;
      ended = flag_stands a.looks.received.ended b.looks.received.ended s.seventh;
      life = life_stands a.life b.life f.life s.eighth;
      grows = f.grows;
      kept = f.kept;
    }

-- a call that is no further stands
pub stands_each : (a b : Option CallRecord) → FurtherOf a b → far_of a ≡ far_of b → StandsOf a b
stands_each None None further same = tt
stands_each None (Some b) further same = absurd (omega (arith, same))
stands_each (Some a) None further same = absurd further
stands_each (Some a) (Some b) further same =
    stands_both a b further (let is : far a ≡ far b = one_less (far a) (far b) same in is)
  where
    one_less : (m n : ℕ) → suc m ≡ suc n → m ≡ n
    one_less m n same = omega arith

-- ---- at both ends

-- two calls that come to the same both stand
pub both_stand : (a b x y : Option CallRecord) → FurtherOf a b → FurtherOf x y
    → far_of a + far_of x ≡ far_of b + far_of y → (far_of a ≡ far_of b) × (far_of x ≡ far_of y)
both_stand a b x y first second same =
    by (far_of a) (far_of b) (far_of x) (far_of y) (far_low a b first) (far_low x y second) same
  where
    by : (m n o p : ℕ) → m ≤ n → o ≤ p → m + o ≡ n + p → (m ≡ n) × (o ≡ p)
    by m n o p low high is = (omega arith, omega arith)

module _ (c : CallName) (k : ℕ) (client server : Node) (t : Stage) (scene : OneOf c k client server t) where
  -- the call's connection with its ends, of which the server starts no call anew
  pub scene_fed : Fed (ends_in (connection_of c) (suc k) client server) t.history
  scene_fed =
      fed_in t.nodes t.history scene.world (suc k) client server (connection_of c) scene.client_there scene.client_is
      scene.server_there scene.kept

  -- the server starts it once
  pub scene_once : StartsOnce server.setup (side 0 t.history) c
  scene_once = scene_fed.once c refl

  module _ (s : Stage) (later : List Noted) (is : t.history ≡ later ++ s.history) where
    split : (node : ℕ) → side node t.history ≡ side node later ++ side node s.history
    split node = ap (side node) is ∙ side-split node later s.history

    -- at a later stage the client has it further
    pub asked_further : FurtherOf (asked_in c k client s) (asked_in c k client t)
    asked_further =
        subst (λ (es : List Event). FurtherOf (asked_in c k client s) (call_at (looks client.setup es) c))
        (sym (split (suc k)))
        (further_on client.setup (side (suc k) later) (side (suc k) s.history) c scene_fed.client_fits
        (subst (Legal client.setup) (split (suc k)) scene_fed.client_legal)
        (inl (c.host, c.epoch, scene_fed.client_kind)))

    -- and so has the server
    pub served_further : FurtherOf (served_in c server s) (served_in c server t)
    served_further =
        subst (λ (es : List Event). FurtherOf (served_in c server s) (call_at (looks server.setup es) c))
        (sym (split 0))
        (further_on server.setup (side 0 later) (side 0 s.history) c scene_fed.server_fits
        (subst (Legal server.setup) (split 0) scene_fed.server_legal)
        (inr (
          scene_fed.server_kind,
          subst (λ (es : List Event). StartsOnce server.setup es c) (split 0) (scene_fed.once c refl),
        )))

    -- so it is no less far at either
    pub asked_low : far_of (asked_in c k client s) ≤ far_of (asked_in c k client t)
    asked_low = far_low (asked_in c k client s) (asked_in c k client t) asked_further

    pub served_low : far_of (served_in c server s) ≤ far_of (served_in c server t)
    served_low = far_low (served_in c server s) (served_in c server t) served_further

    -- where both come to the same, each stands
    pub scene_stands : far_of (asked_in c k client s) + far_of (served_in c server s)
        ≡ far_of (asked_in c k client t) + far_of (served_in c server t)
        → StandsOf (asked_in c k client s) (asked_in c k client t) × StandsOf (served_in c server s)
        (served_in c server t)
    scene_stands same =
        (let each = both_stand (asked_in c k client s) (asked_in c k client t) (served_in c server s)
        (served_in c server t) asked_further served_further same in (
          stands_each (asked_in c k client s) (asked_in c k client t) asked_further each.0,
          stands_each (served_in c server s) (served_in c server t) served_further each.1,
        ))

-- ---- between two stages

-- the whole way of a call, at both its ends
abbrev pub both_far : CallName → ℕ → Node → Node → Stage → ℕ
both_far c k client server s = far_of (asked_in c k client s) + far_of (served_in c server s)

-- it only grows
pub both_low : (c : CallName) (k : ℕ) (client server : Node) (t : Stage) → OneOf c k client server t → (s : Stage)
    (later : List Noted) → t.history ≡ later ++ s.history
    → both_far c k client server s ≤ both_far c k client server t
both_low c k client server t scene s later is =
    (let up = asked_low c k client server t scene s later is in
    let down = served_low c k client server t scene s later is in
    omega (arith, up, down))

module _ (c : CallName) (k : ℕ) (client server : Node) (s u t : Stage) where
  -- where it is the same at two stages, it is so at each between
  pub far_between : OneOf c k client server u → OneOf c k client server t → (first second : List Noted)
      → u.history ≡ first ++ s.history → t.history ≡ second ++ u.history
      → both_far c k client server s ≡ both_far c k client server t
      → (both_far c k client server s ≡ both_far c k client server u)
      × (both_far c k client server u ≡ both_far c k client server t)
  far_between at_u at_t first second is_u is_t same =
      by (both_far c k client server s) (both_far c k client server u) (both_far c k client server t)
      (both_low c k client server u at_u s first is_u) (both_low c k client server t at_t u second is_t) same
    where
      by : (m n o : ℕ) → m ≤ n → n ≤ o → m ≡ o → (m ≡ n) × (n ≡ o)
      by m n o low high is = (omega arith, omega arith)
