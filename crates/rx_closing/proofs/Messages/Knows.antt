-- A server that has a record of a call has it as its channel's latest, while the call lives at its client and isn't
-- silent there.
use Rattle.std.proofs.Common.{◌≡◌, ◌==◌, ◌⊎◌, ◌≤◌, ◌+◌, ◌++◌, ℕ, suc, true, false, List, [], ◌∷◌, Option, Some, refl}
use Rattle.std.proofs.Common.{ap, sym, subst, inl, inr, append_assoc, ⊎_elim, is_some, arith}
use Rattle.std.specs.Prelude.{slice_get}
use Rattle.rx_model.specs.declared.event.Noted.{Noted}
use Rattle.rx_model.specs.declared.names.CallName.{CallName}
use Rattle.rx_model.specs.Names.{channel_of, connection_of}
use Rattle.rx_rules.specs.Life.{is_live}
use Rattle.rx_rules.specs.Looks.{CallRecord, channel_at, conn_at}
use Rattle.rx_rules.specs.Rules.{Legal}
use Rattle.rx_rules.specs.Setup.{Setup}
use Rattle.rx_rules.proofs.ConnsLaws.{channel_number, number_of}
use Rattle.rx_history.proofs.Moments.{now-side}
use Rattle.rx_history.proofs.Laws.OnceLaw.{sound-history}
use Rattle.rx_history.proofs.Laws.SoundLaws.{Below}
use Rattle.rx_history.specs.Alone.{ForgotNone}
use Rattle.rx_history.specs.Sides.{Node, moment, side}
use Rattle.rx_law.proofs.Hears.{heard_by}
use Rattle.rx_law.proofs.Joint.{legal-before}
use Rattle.rx_law.proofs.Late.{FedLately, Since, alike-since}
use Rattle.rx_law.proofs.StartsTimed.{TimedAt, timed}
use Rattle.rx_law.proofs.World.{if-some}
use Rattle.rx_law.proofs.WorldTimed.{world-lately}
use Rattle.rx_law.specs.Promises.{ServerForgotNone, ends_in}
use Rattle.rx_law.specs.Times.{AdvancesAlike, GoAlike, Timely, is_clock}
use Rattle.rx_between.proofs.LawsAgree.{agree_in_world}
use Rattle.rx_plan.specs.Stages.{Stage}
use Rattle.rx_wire.specs.Turns.{noted}
use Rattle.rx_closing.specs.Living.{looks_of}
use Rattle.rx_closing.proofs.Frame.{OneOf, asked_in, served_in}
use Rattle.rx_closing.proofs.Messages.Lasts.{some_number}
use Rattle.rx_closing.proofs.Messages.Meets.{asked_last, scene_feeds}
use Rattle.rx_closing.proofs.Messages.Rows.{IsLast}
use Rattle.rx_closing.proofs.Rounds.Lately.{ActedLately, moments_rise}

-- ---- moments

rises_over : (s : Setup) (j : ℕ) (es : List Noted) (e : Noted) (before : List Noted)
    → Legal s (side j (es ++ e ∷ before))
    → moment j before ≤ moment j (es ++ e ∷ before)
rises_over s j es e before legal =
    subst (λ (h : List Noted). moment j before ≤ moment j h) (append_assoc es (e ∷ []) before)
    (moments_rise s j (es ++ e ∷ []) before
    (subst (λ (h : List Noted). Legal s (side j h)) (sym (append_assoc es (e ∷ []) before)) legal))

-- when a call was heard: before an event at which its client acted, or no earlier than that by the server's clock
since_split : (s : Setup) (j : ℕ) (es : List Noted) (e : Noted) (before : List Noted) (own at : ℕ)
    → Legal s (side 0 (es ++ e ∷ before)) → Since 0 j (es ++ e ∷ before) own at
    → (moment 0 before ≤ at) ⊎ Since 0 j before own at
since_split s j [] e before own at legal (inl here) = inl (let same = here.2 in omega (arith, same))
since_split s j [] e before own at legal (inr since) = inr since
since_split s j (x ∷ es) e before own at legal (inl here) =
    inl (let same = here.2 in
    let rises = rises_over s 0 es e before
    (legal-before s (x.node == 0) x.event (side 0 (es ++ e ∷ before)) legal) in
    omega (arith, same, rises))
since_split s j (x ∷ es) e before own at legal (inr since) =
    since_split s j es e before own at (legal-before s (x.node == 0) x.event (side 0 (es ++ e ∷ before)) legal) since

-- the clocks behind such events go alike
alike_there : (j : ℕ) (es : List Noted) (e : Noted) (before : List Noted) → e.node ≡ j → is_clock e.event ≡ false
    → GoAlike 0 j (es ++ e ∷ before) → AdvancesAlike 0 j before (moment 0 before) (moment j before)
alike_there j [] e before at acts alike = alike.0 (at, acts)
alike_there j (x ∷ es) e before at acts alike = alike_there j es e before at acts alike.1

-- where the server's clock went on for eight minutes since a call was heard of, its client's went on for two
lag_of : (server client : Setup) (j : ℕ) (h : List Noted) (own at : ℕ) → Legal server (side 0 h)
    → Legal client (side j h)
    → ActedLately j h → GoAlike 0 j h → Since 0 j h own at → at + 480000 ≤ moment 0 h → own + 120000 ≤ moment j h
lag_of server client j h own at legal_server legal_client acted alike since long =
    by (since_split server j acted.since e acted.before own at
    (subst (λ (g : List Noted). Legal server (side 0 g)) acted.is legal_server)
    (subst (λ (g : List Noted). Since 0 j g own at) acted.is since))
  where
    e : Noted
    e = noted j acted.event

    rises : moment j acted.before ≤ moment j h
    rises =
        subst (λ (g : List Noted). moment j acted.before ≤ moment j g) (sym acted.is)
        (rises_over client j acted.since e acted.before
        (subst (λ (g : List Noted). Legal client (side j g)) acted.is legal_client))

    by : (moment 0 acted.before ≤ at) ⊎ Since 0 j acted.before own at → own + 120000 ≤ moment j h
    by (inl now) =
        (let near = acted.near in absurd (let never : at + 480000
        ≤ at + 300000 = omega (arith, near, now, long) in omega (arith, never)))
    by (inr rest) =
        (let all = alike_there j acted.since e acted.before refl acted.acts
        (subst (λ (g : List Noted). GoAlike 0 j g) acted.is alike) in
        let low = alike-since 0 j acted.before (moment 0 acted.before) (moment j acted.before) own at all rest in
        let near = acted.near in
        let up = rises in
        omega (arith, low, near, up, long))

module _ (c : CallName) (k : ℕ) (client server : Node) (s : Stage) (scene : OneOf c k client server s)
    (a y : CallRecord) (asked : asked_in c k client s ≡ Some a) (served : served_in c server s ≡ Some y) where
  legal_all : (j : ℕ) (n : Node) → slice_get s.nodes j ≡ Some n → Legal n.setup (side j s.history)
  legal_all j n there =
      if-some (slice_get s.nodes j) n (λ (m : Node). Legal m.setup (side j s.history)) there (scene.world.sides.legal j)

  fed_lately : Timely s.nodes s.history → FedLately (ends_in (connection_of c) (suc k) client server) s.history
  fed_lately timely =
      world-lately s.nodes (suc k) client server (connection_of c) scene.client_there scene.client_is scene.server_there
      scene.world.sides.nodes_are scene.world.apart s.history legal_all timely.fresh timely.alike

  some : 1 ≤ c.number
  some =
      some_number server.setup (side 0 s.history) c y (scene_feeds c k client server s scene).server_fits
      (scene_feeds c k client server s scene).server_legal served

  -- a server that forgot no record
  not_forgot : ForgotNone server.setup (side 0 s.history)
      → c.number ≤ number_of (conn_at (looks_of s 0 server) (connection_of c)) c.chan
  not_forgot forgot =
      subst (λ (o : Option CallRecord).
      Below o c.number (number_of (conn_at (looks_of s 0 server) (connection_of c)) c.chan)) served
      (sound-history server.setup (side 0 s.history) c (scene_feeds c k client server s scene).server_kind
      (scene_feeds c k client server s scene).server_legal forgot).below

  now_server : (looks_of s 0 server).now ≡ moment 0 s.history
  now_server = now-side server.setup 0 s.history

  now_client : (looks_of s (suc k) client).now ≡ moment (suc k) s.history
  now_client = now-side client.setup (suc k) s.history

  -- its channel there has come to the call
  abbrev Has : Type 0
  Has = c.number ≤ number_of (conn_at (looks_of s 0 server) (connection_of c)) c.chan

  low : ActedLately (suc k) s.history → (looks_of s (suc k) client).now ≤ a.looks.heard + 60000 → Has
  low acted soon = by scene.kept
    where
      never : FedLately (ends_in (connection_of c) (suc k) client server) s.history
          → (t : TimedAt (ends_in (connection_of c) (suc k) client server) c s.history)
          → t.used + 600000 ≤ (looks_of s 0 server).now → ⊥
      never f t idle =
          (let begun = (t.begun (ap (λ (o : Option CallRecord). is_some o) served)).1 in
          let own = t.since a.looks.heard (ap heard_by asked) in
          let long : t.heard + 480000 ≤ moment 0 s.history = of own.1 begun in
          let feeds = scene_feeds c k client server s scene in
          let lag =
          lag_of server.setup client.setup (suc k) s.history a.looks.heard t.heard feeds.server_legal feeds.client_legal
          acted f.alike own.0 long in
          let here = now_client in
          let never : a.looks.heard + 120000 ≤ a.looks.heard + 60000 = omega (arith, lag, here, soon) in
          omega (arith, never))
        where
          of : (t.heard ≤ t.called) ⊎ (t.heard ≤ t.used + 120000) → t.called ≤ t.used
              → t.heard + 480000 ≤ moment 0 s.history
          of (inl first) begun = (let here = now_server in omega arith)
          of (inr again) begun = (let here = now_server in omega arith)

      by : ServerForgotNone s.nodes s.history ⊎ Timely s.nodes s.history → Has
      by (inl kept) =
          not_forgot (if-some (slice_get s.nodes 0) server (λ (n : Node). ForgotNone n.setup (side 0 s.history))
          scene.server_there kept)
      by (inr timely) =
          (let f = fed_lately timely in
          let t = timed (ends_in (connection_of c) (suc k) client server) s.history c f refl some in
          ⊎_elim (λ (there : Has). there) (λ (idle : t.used + 600000 ≤ (looks_of s 0 server).now). absurd
          (never f t idle))
          (t.recalls.held (ap (λ (o : Option CallRecord). is_some o) served)))

  -- it has it as its channel's latest
  pub knows_last : ActedLately (suc k) s.history → is_live a.life ≡ true
      → (looks_of s (suc k) client).now ≤ a.looks.heard + 60000 → IsLast (looks_of s 0 server) c y
  knows_last acted living soon =
      record {
        there = served;
        number = even (low acted soon) high;
        some = some;
      }
    where
      last : IsLast (looks_of s (suc k) client) c a
      last = asked_last c k client server s scene a asked living

      high : (channel_at (looks_of s 0 server) (channel_of c)).number ≤ c.number
      high =
          subst (λ (n : ℕ). (channel_at (looks_of s 0 server) (channel_of c)).number ≤ n) last.number
          ((agree_in_world s.nodes s.history scene.world scene.kept (connection_of c) (suc k) client server
          scene.client_there scene.client_is scene.server_there).channels (channel_of c) refl)

      even : c.number ≤ number_of (conn_at (looks_of s 0 server) (connection_of c)) c.chan
          → (channel_at (looks_of s 0 server) (channel_of c)).number ≤ c.number
          → (channel_at (looks_of s 0 server) (channel_of c)).number ≡ c.number
      even up down = (let same = channel_number (looks_of s 0 server) (channel_of c) in omega arith)
