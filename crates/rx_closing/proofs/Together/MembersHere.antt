-- The calls that live as fair rounds begin behind a driven plan, each with its client and what it asks.
use Rattle.std.proofs.Common.{◌≡◌, ◌+◌, ◌*◌, ◌≤◌, ℕ, zero, suc, true, List, [], ◌∷◌, Option, Some, None, refl, inl, inr}
use Rattle.std.proofs.Common.{ap, sym, subst, ◌∙◌, arith}
use Rattle.std.specs.Prelude.{slice_get, IfSome}
use Rattle.rx_model.specs.declared.names.CallName.{CallName}
use Rattle.rx_rules.specs.Life.{is_live}
use Rattle.rx_rules.specs.Looks.{CallRecord, call_at, is_call}
use Rattle.rx_rules.proofs.EveryLaws.{Every}
use Rattle.rx_history.specs.Sides.{Node}
use Rattle.rx_law.proofs.World.{if-some}
use Rattle.rx_script.specs.declared.plan.Numbered.{Numbered}
use Rattle.rx_jobs.specs.Handlers.{Handlers, wait_of}
use Rattle.rx_plan.proofs.Driven.{seen}
use Rattle.rx_plan.specs.Answering.{request_for}
use Rattle.rx_plan.specs.Stages.{Stage}
use Rattle.rx_plan.proofs.Followed.{IsFollowed}
use Rattle.rx_plan.proofs.DrivenPlan.{plan_follows}
use Rattle.rx_between.proofs.Each.EachItem.{In}
use Rattle.rx_closing.specs.Work.{work, work_of}
use Rattle.rx_closing.specs.Living.{all_live, call_lives_at, looks_of}
use Rattle.rx_closing.specs.Closing.{RoundsBehind}
use Rattle.rx_closing.specs.Several.{work_of_all}
use Rattle.rx_closing.proofs.Conns.PlanLinks.{plan_links}
use Rattle.rx_closing.proofs.Far.FarWork.{IsCaused, caused}
use Rattle.rx_closing.proofs.Far.Waited.{way_low, way_of}
use Rattle.rx_closing.proofs.Frame.{AreAmong, Crowd, IsSpacious, OneOf, asked_in}
use Rattle.rx_closing.proofs.Living.ClientOf.{HasOne, client_of, one_of}
use Rattle.rx_closing.proofs.Living.InLists.{every_in, in_map_back}
use Rattle.rx_closing.proofs.Living.LivesThere.{LivesAt, lives_there}
use Rattle.rx_closing.proofs.Rounds.Begins.{begins_kept, behind_plain, behind_served, behind_world, live_among}
use Rattle.rx_closing.proofs.Rounds.Begins.{live_named}
use Rattle.rx_closing.proofs.Rounds.ClientsApart.{one_client}
use Rattle.rx_closing.proofs.Together.JobsGo.{JobsGo}
use Rattle.rx_closing.proofs.Together.Members.{AllHere, IsMember, Member, all_way, member_way, names_of}

-- ---- those that live as rounds begin

-- each node has room for all that live
abbrev pub AreSpacious : Stage → Type 0
AreSpacious s = (j : ℕ) → IfSome (slice_get s.nodes j) (λ q. IsSpacious (all_live s) q.setup)

-- no others live
pub behind_crowd : (g : Handlers) (ls : List Numbered) (n : ℕ) (s t : Stage) → RoundsBehind g ls n s t
    → AreSpacious s → Crowd (all_live s) s
behind_crowd g ls n s t b spacious =
    record {
      world = behind_world g ls n s t b;
      kept = begins_kept g ls n s t b;
      plain = behind_plain g ls n s t b;
      among = λ j. by j (slice_get s.nodes j) refl;
      space = spacious;
    }
  where
    by : (j : ℕ) (o : Option Node) → slice_get s.nodes j ≡ o → IfSome o (λ m. AreAmong (all_live s) (looks_of s j m))
    by j None there = tt
    by j (Some m) there = λ d r found living. live_among s j m d there (live_named s j m d r found living)

-- a member for a name
pub record MemberFor (g : Handlers) (ls : List Numbered) (server : Node) (s : Stage) (c : CallName) : Type 0 where
  pub it : Member
  pub call : it.call ≡ c
  pub is : IsMember g ls server s it

module _ (g : Handlers) (ls : List Numbered) (server : Node) (s : Stage) where
  -- a call of a stage, that a client has a record of, has a caller there
  pub member_from : IsFollowed g ls (seen s) → (c : CallName) → HasOne c server s → MemberFor g ls server s c
  member_from held c h =
      record {
        it = record {
          call = c;
          index = h.index;
          client = h.client;
          request = request_for g
              cause.caller.origin.invoke;
        };
        call = refl;
        is = record { one = h.one; caused = record { cause = cause; asks = refl } };
      }
    where
      cause : IsCaused g ls c h.index h.client s
      cause =
          (let has = (held.played h.one.world.sides.nodes_are).each_has (suc h.index) h.client c.host c.epoch
          h.one.client_there h.one.client_is c (record { call = h.asked; there = h.asked_is }) in
          caused g ls c h.index h.client server s h.one held has.place has.caller has.there has.call)

  -- a call that lives
  pub member_of : IsFollowed g ls (seen s) → Crowd (all_live s) s → slice_get s.nodes 0 ≡ Some server → (c : CallName)
      → In c (all_live s) → MemberFor g ls server s c
  member_of held crowd first c inside = by at.index at.node at.there at.call at.call_is
    where
      at : LivesAt s c
      at = lives_there s c crowd.world inside

      one_node : (a b : Node) → ◌≡◌ {A = Option Node} (Some a) (Some b) → a ≡ b
      one_node a b same = cc

      by : (j : ℕ) (n : Node) → slice_get s.nodes j ≡ Some n → (r : CallRecord)
          → call_at (looks_of s j n) c ≡ Some r → MemberFor g ls server s c
      by zero n there r is =
          (let same : n ≡ server = one_node n server (sym there ∙ first) in
          member_from held c (client_of (all_live s) s crowd server first c r
          (subst (λ (m : Node). call_at (looks_of s 0 m) c ≡ Some r) same is)))
      by (suc k) n there r is =
          member_from held c (record {
            index = k;
            client = n;
            one = one_of (all_live s) s crowd server first c k n r there is;
            asked = r;
            asked_is = is;
          })

  -- members for names
  pub record MembersFor (cs : List CallName) : Type 0 where
    pub those : List Member
    pub names : names_of those ≡ cs
    pub each : Every (IsMember g ls server s) those

  members_for : (cs : List CallName) → ((c : CallName) → In c cs → MemberFor g ls server s c) → MembersFor cs
  members_for [] has = record { those = []; names = refl; each = tt }
  members_for (c ∷ cs) has =
      (let m = has c (inl refl) in
      let rest = members_for cs (λ d there. has d (inr there)) in
      record {
        those = m.it ∷ rest.those;
        names = λ i. m.call i ∷ rest.names i;
        each = (m.is, rest.each);
      })

-- all of them
pub record AllMembers (g : Handlers) (ls : List Numbered) (server : Node) (s : Stage) : Type 0 where
  pub those : List Member
  pub names : names_of those ≡ all_live s
  pub here : AllHere g ls server those s

pub members : (g : Handlers) (ls : List Numbered) (n : ℕ) (s t : Stage) → RoundsBehind g ls n s t → AreSpacious s
    → (server : Node) → slice_get s.nodes 0 ≡ Some server → AllMembers g ls server s
members g ls n s t b spacious server first =
    record {
      those = all.those;
      names = all.names;
      here = record {
        crowd = subst (λ (cs : List CallName). Crowd cs s) (sym all.names) crowd;
        held = held;
        links = behind_served g ls n s t b;
        linked = plan_links g ls b.es s b.driven b.goes;
        members = all.each;
      };
    }
  where
    crowd : Crowd (all_live s) s
    crowd = behind_crowd g ls n s t b spacious

    held : IsFollowed g ls (seen s)
    held = plan_follows g ls b.es s b.well b.driven b.goes

    all : MembersFor g ls server s (all_live s)
    all = members_for g ls server s (all_live s) (member_of g ls server s held crowd first)

-- ---- one of them

-- a member of a name
pub record MemberNamed (ms : List Member) (c : CallName) : Type 0 where
  pub member : Member
  pub inside : In member ms
  pub call : member.call ≡ c

pub member_named : (ms : List Member) (c : CallName) → In c (names_of ms) → MemberNamed ms c
member_named ms c there =
    (let r = in_map_back (λ (m : Member). m.call) c ms there in
    record { member = r.it; inside = r.inside; call = sym r.is })

-- a member with a client of this place
pub record MemberHere (ms : List Member) (c : CallName) (k : ℕ) (client : Node) : Type 0 where
  pub member : Member
  pub inside : In member ms
  pub call : member.call ≡ c
  pub index_is : member.index ≡ k
  pub client_is : member.client ≡ client

module _ (g : Handlers) (ls : List Numbered) (server : Node) (ms : List Member) (s : Stage)
    (here : AllHere g ls server ms s) where
  pub is_member : (m : Member) → In m ms → IsMember g ls server s m
  is_member m inside = every_in (IsMember g ls server s) ms m here.members inside

  -- a call that lives at a client is a member's, and the client is the member's
  pub member_here : (k : ℕ) (client : Node) (c : CallName) → slice_get s.nodes (suc k) ≡ Some client
      → call_lives_at s c (suc k) client ≡ true → MemberHere ms c k client
  member_here k client c there living = of (asked_in c k client s) refl living
    where
      one_node : (a b : Node) → ◌≡◌ {A = Option Node} (Some a) (Some b) → a ≡ b
      one_node a b same = cc

      of : (o : Option CallRecord) → asked_in c k client s ≡ o → is_call (λ r. is_live r.life) o ≡ true
          → MemberHere ms c k client
      of None is lives_ = absurd cc
      of (Some r) is lives_ =
          (let inside : In c (names_of ms) =
          if-some (slice_get s.nodes (suc k)) client (λ n. AreAmong (names_of ms) (looks_of s (suc k) n)) there
          (here.crowd.among (suc k)) c r is lives_ in
          let m = member_named ms c inside in
          let one : OneOf m.member.call m.member.index m.member.client server s = (is_member m.member m.inside).one in
          let own : OneOf c k client server s =
          one_of (names_of ms) s here.crowd server one.server_there c k client r there is in
          let same : OneOf c m.member.index m.member.client server s =
          subst (λ (d : CallName). OneOf d m.member.index m.member.client server s) m.call one in
          let index : suc m.member.index ≡ suc k =
          one_client s.nodes c (suc m.member.index) (suc k) m.member.client client own.world.apart same.client_there
          own.client_there same.client_is own.client_is in
          record {
            member = m.member;
            inside = m.inside;
            call = m.call;
            index_is = omega (arith, index);
            client_is =
                one_node m.member.client client
                (sym same.client_there ∙ ap (slice_get s.nodes) index ∙ own.client_there);
          })

-- ---- their work

-- the work of what each asks
abbrev pub request_work : Handlers → List Member → ℕ
request_work g [] = 0
request_work g (m ∷ ms) = work g m.request + request_work g ms

-- it is the work of all
pub all_work : (g : Handlers) (ls : List Numbered) (server : Node) (s : Stage) (ms : List Member)
    → Every (IsMember g ls server s) ms → work_of_all g ls s (names_of ms) ≡ request_work g ms
all_work g ls server s [] all = refl
all_work g ls server s (m ∷ ms) all =
    (let i = all.0.caused in
    let own : work_of g ls s m.call ≡ work g m.request = i.cause.work_is ∙ ap (work g) i.asks in
    let rest = all_work g ls server s ms all.1 in
    λ j. own j + rest j)

-- the way of each is bounded by its work
pub member_most : (g : Handlers) (ls : List Numbered) (server : Node) (s : Stage) → JobsGo g ls server
    → IsFollowed g ls (seen s) → (m : Member) → IsMember g ls server s m
    → member_way g server s m + 18 ≤ 5 * work g m.request
member_most g ls server s jobs held m is =
    (let i = is.caused in
    let low = way_low g ls m.call m.index m.client server s is.one held i.cause
    (jobs.low m.call m.index m.client s is.one held i.cause) in
    let own : work_of g ls s m.call ≡ work g m.request = i.cause.work_is ∙ ap (work g) i.asks in
    let same : way_of (wait_of g (request_for g i.cause.caller.origin.invoke)) m.call m.index m.client server s
    ≡ member_way g server s m =
    ap (λ (bs : List ℕ). way_of (wait_of g bs) m.call m.index m.client server s) i.asks in
    by (way_of (wait_of g (request_for g i.cause.caller.origin.invoke)) m.call m.index m.client server s)
    (member_way g server s m) (work_of g ls s m.call) (work g m.request) low same own)
  where
    by : (a b v w : ℕ) → a + 18 ≤ 5 * v → a ≡ b → v ≡ w → b + 18 ≤ 5 * w
    by a b v w low same is = omega (arith, low, same, is)

-- and so that of all
pub way_most : (g : Handlers) (ls : List Numbered) (server : Node) (s : Stage) → JobsGo g ls server
    → IsFollowed g ls (seen s) → (ms : List Member) → Every (IsMember g ls server s) ms
    → all_way g server ms s ≤ 5 * request_work g ms
way_most g ls server s jobs held [] all = omega arith
way_most g ls server s jobs held (m ∷ ms) all =
    by (member_way g server s m) (all_way g server ms s) (work g m.request) (request_work g ms)
    (member_most g ls server s jobs held m all.0) (way_most g ls server s jobs held ms all.1)
  where
    by : (a b v w : ℕ) → a + 18 ≤ 5 * v → b ≤ 5 * w → a + b ≤ 5 * (v + w)
    by a b v w one rest = omega (arith, one, rest)

-- with some to spare where there is one
pub way_some : (g : Handlers) (ls : List Numbered) (server : Node) (s : Stage) → JobsGo g ls server
    → IsFollowed g ls (seen s) → (ms : List Member) → Every (IsMember g ls server s) ms → (m : Member) → In m ms
    → all_way g server ms s + 18 ≤ 5 * request_work g ms
way_some g ls server s jobs held [] all m inside = absurd inside
way_some g ls server s jobs held (n ∷ ms) all m inside =
    by (member_way g server s n) (all_way g server ms s) (work g n.request) (request_work g ms)
    (member_most g ls server s jobs held n all.0) (way_most g ls server s jobs held ms all.1)
  where
    by : (a b v w : ℕ) → a + 18 ≤ 5 * v → b ≤ 5 * w → a + b + 18 ≤ 5 * (v + w)
    by a b v w one rest = omega (arith, one, rest)
