-- Rounds one after another through which none of some calls comes further, from a stage behind another such round:
-- where each call stands, and what is known of each round for it.
use Rattle.std.proofs.Common.{◌≡◌, ◌+◌, ℕ, suc, List, Option, Some, None, refl, ap, sym, subst, ◌∙◌, arith}
use Rattle.std.specs.Prelude.{slice_get}
use Rattle.rx_model.specs.declared.names.CallName.{CallName}
use Rattle.rx_rules.specs.Life.{is_active}
use Rattle.rx_rules.specs.Looks.{CallRecord}
use Rattle.rx_history.specs.Sides.{Node}
use Rattle.rx_law.specs.Worlds.{Datagram}
use Rattle.rx_script.specs.declared.plan.Numbered.{Numbered}
use Rattle.rx_jobs.specs.Handlers.{Handlers}
use Rattle.rx_plan.specs.Stages.{Stage}
use Rattle.rx_between.proofs.Each.EachItem.{In}
use Rattle.rx_rounds.proofs.Rounded.{RoundMade}
use Rattle.rx_closing.specs.Living.{looks_of}
use Rattle.rx_closing.proofs.Ends.BothEnds.{Stood}
use Rattle.rx_closing.proofs.Far.AtWork.{IsServing}
use Rattle.rx_closing.proofs.Far.FarStands.{StandsAt, StandsOf, both_far, scene_stands}
use Rattle.rx_closing.proofs.Frame.{OneOf, asked_in, served_in}
use Rattle.rx_closing.proofs.Owing.OwesNone.{OwesNone}
use Rattle.rx_closing.proofs.Polls.StreamOf.{StreamOf}
use Rattle.rx_closing.proofs.Rounds.Chains.{Adds, Chain, chain_adds, chain_both, chain_more, chain_none, round_more}
use Rattle.rx_closing.proofs.Rounds.Settles.{Settles}
use Rattle.rx_closing.proofs.Sums.RoundLoads.{EachRound, EachStage, Together}
use Rattle.rx_closing.proofs.Together.Members.{AllHere, Member, names_of}
use Rattle.rx_closing.proofs.Together.MembersHere.{is_member}
use Rattle.rx_closing.proofs.Unknown.UnservedMeet.{IsAsked}
use Rattle.rx_closing.proofs.Working.EndRounds.{RoundFor}
use Rattle.rx_closing.proofs.Working.WorkHere.{stands_from, stood_between}

-- ---- rounds

-- a round gives something of a member's stream
abbrev pub GivesOf : (g : Handlers) → Member → (v w : Stage) → RoundMade g v w → Type 0
GivesOf g m v w r = (d : Datagram) × In d r.polled.given × StreamOf v.nodes r.polled.stage.history m d

-- from one stage to another none of the members comes further, nor in the round before the first
pub record StandsFrom (g : Handlers) (ls : List Numbered) (server : Node) (ms : List Member) (y z u : Stage) :
    Type 0 where
  pub first : RoundMade g y z
  pub began : AllHere g ls server ms y
  pub all : EachStage g z u 0 (λ v. AllHere g ls server ms v)
  pub far_first :
      (m : Member) → In m ms → both_far m.call m.index m.client server y ≡ both_far m.call m.index m.client server z
  pub far :
      (m : Member) → In m ms
      → EachStage g z u 0 (λ v. both_far m.call m.index m.client server z ≡ both_far m.call m.index m.client server v)
  pub bare : EachStage g z u 2 (λ v. (j : ℕ) (n : Node) → slice_get v.nodes j ≡ Some n → OwesNone (looks_of v j n))
  pub settles_first : Settles first.polled.given first.called z
  pub settles : EachRound g z u 0 (λ v w r. Settles r.polled.given r.called w)
  pub together : (j : ℕ) (n : Node) → slice_get z.nodes j ≡ Some n → EachStage g z u 0 (Together g z u j)

module _ (g : Handlers) (ls : List Numbered) (server : Node) (ms : List Member) (y z u : Stage)
    (so : StandsFrom g ls server ms y z u) (rest_z : (n : ℕ) × Chain g n z u) (m : Member) (inside : In m ms) where
  abbrev c : CallName
  c = m.call

  abbrev k : ℕ
  k = m.index

  abbrev client : Node
  client = m.client

  -- ---- stages

  here_z : AllHere g ls server ms z
  here_z = so.all 0 rest_z.0 z (chain_none z) rest_z.1 (omega arith)

  pub one_z : OneOf c k client server z
  one_z = (is_member g ls server ms z here_z m inside).one

  pub one_y : OneOf c k client server y
  one_y = (is_member g ls server ms y so.began m inside).one

  -- the call is one of each stage
  pub one_at : EachStage g z u 0 (λ v. OneOf c k client server v)
  one_at i n v front rest many = (is_member g ls server ms v (so.all i n v front rest many) m inside).one

  -- and stands there as it did
  pub stands_at : EachStage g z u 0 (λ v. StandsOf (asked_in c k client z) (asked_in c k client v)
      × StandsOf (served_in c server z) (served_in c server v))
  stands_at i n v front rest many =
      (let grown : Adds z.history v.history = chain_adds g i z v front in
      scene_stands c k client server v (one_at i n v front rest many) z grown.more grown.is
      (so.far m inside i n v front rest many))

  stood_first : StandsOf (asked_in c k client y) (asked_in c k client z)
      × StandsOf (served_in c server y) (served_in c server z)
  stood_first =
      (let grown : Adds y.history z.history = round_more g y z so.first in
      scene_stands c k client server z one_z y grown.more grown.is (so.far_first m inside))

  -- ---- rounds

  -- what is known of each
  pub round_for : EachRound g z u 0 (λ v w r. RoundFor g ls (names_of ms) c k client server v w r)
  round_for i n v w front r rest many =
      (let here = so.all i (suc n) v front (chain_more n v w u r rest) (omega arith) in
      record {
        over = one_at (i + 1) n w (chain_both g i 1 z v w front (chain_more 0 v w w r (chain_none w))) rest
            (omega arith);
        crowd = here.crowd;
        held = here.held;
        links = here.links;
        linked = here.linked;
        settles = so.settles i n v w front r rest many;
      })

  -- and of the one before
  pub first_for : RoundFor g ls (names_of ms) c k client server y z so.first
  first_for =
      record {
        over = one_z;
        crowd = so.began.crowd;
        held = so.began.held;
        links = so.began.links;
        linked = so.began.linked;
        settles = so.settles_first;
      }

  -- ---- its client's end

  module _ (a : IsAsked c k client z) where
    -- it is calling at each stage, and stands there
    pub record AskedOn (v : Stage) : Type 0 where
      pub asked : IsAsked c k client v
      pub stands : StandsAt a.call asked.call

    asked_on : (v : Stage) → StandsOf (asked_in c k client z) (asked_in c k client v) → AskedOn v
    asked_on v stands =
        (let f = stands_from (asked_in c k client z) (asked_in c k client v) a.call a.there stands in
        record {
          asked = record { call = f.0; there = f.1; calling = f.2.life ∙ a.calling };
          stands = f.2;
        })

    pub asked_at : EachStage g z u 0 AskedOn
    asked_at i n v front rest many = asked_on v (stands_at i n v front rest many).0

    pub asked_first : (b : IsAsked c k client y) × StandsAt b.call a.call
    asked_first = of (asked_in c k client y) refl stood_first.0
      where
        of : (o : Option CallRecord) → asked_in c k client y ≡ o → StandsOf o (asked_in c k client z)
            → (b : IsAsked c k client y) × StandsAt b.call a.call
        of None is stands =
            absurd (subst (λ (p : Option CallRecord). StandsOf None p) a.there stands)
        of (Some q) is stands =
            (let both : StandsAt q a.call =
            subst (λ (p : Option CallRecord). StandsOf (Some q) p) a.there stands in (
              record { call = q; there = is; calling = sym both.life ∙ a.calling },
              both,
            ))

    -- between two of them nothing of it moves
    pub asked_stood : (v w : Stage) (b : AskedOn v) (d : AskedOn w) → Stood b.asked.call.looks d.asked.call.looks
    asked_stood v w b d = stood_between a.call b.asked.call d.asked.call b.stands d.stands

  -- ---- its server's end

  module _ (a : IsServing c server z) where
    pub record ServedOn (v : Stage) : Type 0 where
      pub served : IsServing c server v
      pub stands : StandsAt a.call served.call

    served_on : (v : Stage) → StandsOf (served_in c server z) (served_in c server v) → ServedOn v
    served_on v stands =
        (let f = stands_from (served_in c server z) (served_in c server v) a.call a.there stands in
        record {
          served = record { call = f.0; there = f.1; works = ap is_active f.2.life ∙ a.works };
          stands = f.2;
        })

    pub served_at : EachStage g z u 0 ServedOn
    served_at i n v front rest many = served_on v (stands_at i n v front rest many).1

    pub served_first : (b : IsServing c server y) × StandsAt b.call a.call
    served_first = of (served_in c server y) refl stood_first.1
      where
        of : (o : Option CallRecord) → served_in c server y ≡ o → StandsOf o (served_in c server z)
            → (b : IsServing c server y) × StandsAt b.call a.call
        of None is stands =
            absurd (subst (λ (p : Option CallRecord). StandsOf None p) a.there stands)
        of (Some q) is stands =
            (let both : StandsAt q a.call =
            subst (λ (p : Option CallRecord). StandsOf (Some q) p) a.there stands in (
              record { call = q; there = is; works = sym (ap is_active both.life) ∙ a.works },
              both,
            ))

    pub served_stood : (v w : Stage) (b : ServedOn v) (d : ServedOn w)
        → Stood b.served.call.looks d.served.call.looks
    served_stood v w b d = stood_between a.call b.served.call d.served.call b.stands d.stands
