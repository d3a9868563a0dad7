-- A call that its server doesn't know: no datagram of another starts it, its channel there is below it while it lives
-- at its client, and there is room for it among these calls.
use Rattle.std.proofs.Common.{◌≡◌, ◌≤◌, ◌<◌, nat_le, nat_lt, ℕ, suc, Bool, true, false, List, ◌∷◌, length, Option, Some}
use Rattle.std.proofs.Common.{None, Ok, refl, inl, inr, ◌∙◌, ap, sym, subst, is_some, arith}
use Rattle.std.proofs.lemmas.Bool.Decides.{nat_tests}
use Rattle.std.specs.Prelude.{slice_get}
use Rattle.rx_model.specs.declared.event.Event.{Event}
use Rattle.rx_model.specs.declared.names.CallName.{CallName}
use Rattle.rx_model.specs.declared.names.Host.{Host}
use Rattle.rx_model.specs.Names.{channel_of, connection_of, same_host}
use Rattle.rx_model.specs.Reading.{reading_of}
use Rattle.rx_model.proofs.NameLaws.{host_is}
use Rattle.rx_rules.specs.After.{looks}
use Rattle.rx_rules.specs.Judging.{outer_row}
use Rattle.rx_rules.specs.Life.{is_live}
use Rattle.rx_rules.specs.Life as lives
use Rattle.rx_rules.specs.Looks.{CallRecord, Looks, call_at, call_named, channel_at}
use Rattle.rx_rules.specs.Rules.{Legal}
use Rattle.rx_rules.specs.Setup.{FitsSetup, Setup, named}
use Rattle.rx_rules.specs.Slots.{live}
use Rattle.rx_history.proofs.Suffice.{roomy_history}
use Rattle.rx_history.specs.Sides.{Node, side}
use Rattle.rx_law.proofs.Joint.{Fed}
use Rattle.rx_law.specs.Promises.{ends_in}
use Rattle.rx_law.specs.Worlds.{Datagram}
use Rattle.rx_between.proofs.Each.EachEvent.{each_step}
use Rattle.rx_between.proofs.Each.EachStep.{CallStep, Starts}
use Rattle.rx_between.proofs.LawsAgree.{agree_in_world}
use Rattle.rx_between.proofs.Numbered.{latest_there}
use Rattle.rx_plan.specs.Stages.{Stage}
use Rattle.rx_between.proofs.Each.EachItem.{In}
use Rattle.rx_closing.specs.Living.{looks_of}
use Rattle.rx_closing.proofs.Far.FarStands.{scene_fed}
use Rattle.rx_closing.proofs.Frame.{AreAmong, IsSpacious, OneOf, asked_in}
use Rattle.rx_closing.proofs.Living.Before.{one_before}
use Rattle.rx_closing.proofs.Living.Few.{fewer_live}
use Rattle.rx_closing.proofs.Living.LifeBetween.{asked_between, asked_last_at}
use Rattle.rx_closing.proofs.Messages.Delivered.{DeliveredBy, takes_from}
use Rattle.rx_closing.proofs.Messages.Rows.{IsLast}
use Rattle.rx_closing.proofs.Messages.TakesAll.{IsNotFor}
use Rattle.rx_closing.proofs.Rounds.Chains.{Adds}

-- ---- numbers

less_or_same : (a b : ℕ) → a ≤ b → nat_lt a b ≡ false → a ≡ b
less_or_same a b low other = grind (arith, nat_tests)

uncrowded : (limit count size : ℕ) → size ≤ limit → count < size → nat_le limit count ≡ true → ⊥
uncrowded limit count size low less is =
    absurd (let no : nat_le limit count ≡ false = grind (arith, nat_tests) in
    let never : false ≡ true = sym no ∙ is in cc (never))

-- ---- a node that doesn't know a call

-- a datagram that says nothing of it doesn't start it
pub none_one : (n : Node) (c : CallName) → FitsSetup n.setup → (d : Datagram) (s t : Stage)
    → slice_get s.nodes 0 ≡ Some n → DeliveredBy d s t → IsNotFor n c d → Legal n.setup (side 0 t.history)
    → call_at (looks_of s 0 n) c ≡ None
    → call_at (looks_of t 0 n) c ≡ None
none_one n c fits d s t there f other legal none = by (same_host d.to n.host) refl
  where
    l : Looks
    l = looks n.setup (side 0 s.history)

    e : Event
    e = takes_from n.setup d (looks n.setup (side 0 s.history))

    never : same_host d.to n.host ≡ true → (b : CallRecord)
        → Starts n.setup (looks n.setup (side 0 s.history)) e c b → ⊥
    never comes b (name, inl opens) =
        (let j = opens.takes.judges in
        let from : j.from ≡ d.from = (let is = j.is in cc (is)) in
        let bytes : j.bytes ≡ d.bytes = (let is = j.is in cc (is)) in
        other (looks n.setup (side 0 s.history)) opens.takes.message (host_is d.to n.host comes)
        (subst (λ (bs : List ℕ). reading_of bs ≡ Ok opens.takes.message) bytes j.reads)
        (subst (λ (x : Host). outer_row n.setup n.setup.kind (looks n.setup (side 0 s.history)) x opens.takes.message
        ≡ None) from j.front)
        (subst (λ (x : Host). named n.setup x opens.takes.message ≡ c) from j.name))
    never comes b (name, inr made) = absurd (let is = made.event in cc (is))

    step : same_host d.to n.host ≡ true → (o : Option CallRecord)
        → CallStep n.setup (looks n.setup (side 0 s.history)) e c None o → o ≡ None
    step comes None is = refl
    step comes (Some b) starts = absurd (never comes b starts)

    by : (b : Bool) → same_host d.to n.host ≡ b → call_at (looks_of t 0 n) c ≡ None
    by false is = ap (λ (es : List Event). call_at (looks n.setup es) c) ((f.comes 0 n there).passes is) ∙ none
    by true is =
        (let own = ((f.comes 0 n there).takes is).own in
        ap (λ (es : List Event). call_at (looks n.setup es) c) own
        ∙ step is (call_at (looks n.setup (e ∷ side 0 s.history)) c)
        (subst (λ (o : Option CallRecord). CallStep n.setup (looks n.setup (side 0 s.history)) e c o
        (call_at (looks n.setup (e ∷ side 0 s.history)) c)) none
        (each_step n.setup (side 0 s.history) e c fits (subst (Legal n.setup) own legal))))

-- ---- a call that lives at its client

module _ (c : CallName) (k : ℕ) (client server : Node) (v : Stage) (at_end : OneOf c k client server v) where
  -- the server's channel is below it while the server doesn't know it
  pub ahead_at : (z w : Stage) → Adds z.history w.history → Adds w.history v.history → (a b : CallRecord)
      → asked_in c k client z ≡ Some a → asked_in c k client v ≡ Some b → a.life ≡ lives.Calling
      → b.life ≡ lives.Calling → call_at (looks_of w 0 server) c ≡ None
      → nat_lt (channel_at (looks_of w 0 server) (channel_of c)).number c.number ≡ true
  ahead_at z w front back a b asked_first asked_last calls_first calls_last none =
      by (nat_lt (channel_at (looks_of w 0 server) (channel_of c)).number c.number) refl
    where
      o : OneOf c k client server (record v { history = w.history })
      o = one_before c k client server v at_end (record v { history = w.history }) refl back

      m : (m : CallRecord) × (asked_in c k client (record v { history = w.history }) ≡ Some m) × (m.life ≡ a.life)
      m =
          asked_between c k client server v at_end z (record v { history = w.history }) front back a b asked_first
          asked_last (calls_last ∙ sym calls_first)

      last : IsLast (looks_of (record v { history = w.history }) (suc k) client) c m.0
      last =
          asked_last_at c k client server v at_end z (record v { history = w.history }) front back m.0 m.1
          (ap is_live (m.2 ∙ calls_first))

      low : (channel_at (looks_of w 0 server) (channel_of c)).number ≤ c.number
      low =
          subst (λ (n : ℕ). (channel_at (looks_of w 0 server) (channel_of c)).number ≤ n) last.number
          ((agree_in_world v.nodes w.history o.world o.kept (connection_of c) (suc k) client server o.client_there
          o.client_is o.server_there).channels (channel_of c) refl)

      fed_w : Fed (ends_in (connection_of c) (suc k) client server) w.history
      fed_w = scene_fed c k client server (record v { history = w.history }) o

      by : (q : Bool) → nat_lt (channel_at (looks_of w 0 server) (channel_of c)).number c.number ≡ q
          → nat_lt (channel_at (looks_of w 0 server) (channel_of c)).number c.number ≡ true
      by true less = less
      by false equal =
          absurd (let same : (channel_at (looks_of w 0 server) (channel_of c)).number ≡ c.number =
          less_or_same (channel_at (looks_of w 0 server) (channel_of c)).number c.number low equal in
          let some = last.some in
          let there : is_some (call_at (looks_of w 0 server) c) ≡ true =
          ap (λ (n : ℕ). is_some (call_at (looks_of w 0 server) (call_named (channel_of c) n))) (sym same)
          ∙ latest_there server.setup (side 0 w.history) (channel_of c) fed_w.server_kind fed_w.server_fits
          fed_w.server_legal (omega arith) in
          let never : false ≡ true = sym (ap (λ (r : Option CallRecord). is_some r) none) ∙ there in cc (never))

-- as many calls as may live live there only where one of these does, where it is one of them
pub room_at : (s : Setup) (es : List Event) (c : CallName) (cs : List CallName) → In c cs → IsSpacious cs s
    → AreAmong cs (looks s es) → Legal s es → call_at (looks s es) c ≡ None
    → nat_le s.limits.calls (live (looks s es)) ≡ true → ⊥
room_at s es c cs inside space among legal none crowded =
    uncrowded s.limits.calls (live (looks s es)) (length cs) space.0
    (fewer_live (looks s es) cs c (roomy_history s es legal).differ among inside
    (λ r there. absurd (let no : ◌≡◌ {A = Option CallRecord} None (Some r) = sym none ∙ there in cc (no)))) crowded
