-- A client makes a connection, and starts a call.
use Rattle.std.proofs.Common.{◌≡◌, ◌<◌, ◌≤◌, ◌+◌, ◌*◌, ◌/◌, ◌%◌, ◌^◌, ℕ, if◌then◌else◌, nat_le, Bool, true}
use Rattle.std.proofs.Common.{false, List, [], ◌∷◌, filter, length}
use Rattle.std.proofs.Common.{Option, Some, None, Result, Ok, Err, refl, ◌∙◌, ap, sym, subst, arith}
use Rattle.std.specs.Prelude.{slice_get}
use Rattle.std.proofs.lemmas.Bool.Decides.{nat_tests}
use Rattle.rx_model.specs.declared.answers.CallRefused.{CallRefused}
use Rattle.rx_model.specs.declared.answers.CallRefused.TheVariants as crowds
use Rattle.rx_model.specs.declared.answers.ConnFull.{ConnFull}
use Rattle.rx_model.specs.declared.event.Event.{Event}
use Rattle.rx_model.specs.declared.event.Event.TheVariants as events
use Rattle.rx_model.specs.declared.names.CallName.{CallName}
use Rattle.rx_model.specs.declared.names.Host.{Host}
use Rattle.rx_model.specs.Names.{Channel, Connection, channel_of, channels_of, connection_of}
use Rattle.rx_rules.specs.After.{linked, looks}
use Rattle.rx_rules.specs.Classes.{Class}
use Rattle.rx_rules.specs.Life as lives
use Rattle.rx_rules.specs.Looks.{ChannelLooks, ConnLooks, Looks, call_named, channel_at, conn_at, fresh_channel}
use Rattle.rx_rules.specs.Looks.{latest_name}
use Rattle.rx_rules.specs.Records.{fresh_conn, placed, started}
use Rattle.rx_rules.specs.Rules.{Allowed, Legal, call_answer, call_among, call_of_conn, connect_answer, is_free}
use Rattle.rx_rules.specs.Rules.{next_number}
use Rattle.rx_rules.specs.Setup.{FitsSetup, Kind, Setup, Client, is_client, nonce_of}
use Rattle.rx_rules.specs.Slots.{live}
use Rattle.rx_history.proofs.Conns.{GoodConn}
use Rattle.rx_history.proofs.Fit.FitHistory.{node_stands}
use Rattle.rx_history.proofs.Order.Orderly.{AmongFirst, HasFour, Orderly}
use Rattle.rx_history.proofs.Order.OrderlyHistory.{orderly_history}
use Rattle.rx_history.proofs.Room.RoomStarts.{RoomyAt}
use Rattle.rx_history.proofs.Suffice.{roomy_history}
use Rattle.rx_table.specs.Records.{place_of}
use Rattle.rx_node.specs.Mirrors.{IsChannel, Mirrors}
use Rattle.rx_node.specs.Node.{NodeState, setup_of}
use Rattle.rx_node.specs.Steps.{AnswersNode, StandsNode}
use Rattle.rx_node.proofs.Steps.ChannelSteps.{IsThere, channel_started, conn_there, every-at}
use Rattle.rx_node.proofs.KeptKeys.{key_on_channel}
use Rattle.rx_node.proofs.Steps.IdleSteps.{known_at, unknown_at}
use Rattle.rx_client.specs.Calling.{HasNoneOpen, IsFirstOpen}
use Rattle.rx_client.proofs.Answering.{allowed_client, answers_by}
use Rattle.rx_client.proofs.ClientEvents.{unchanged}
use Rattle.rx_client.proofs.OpenChannels.{opened_among, refused_among}

module _ (class : List ℕ → Class) (old : NodeState) (host : Host) (epoch : ℕ)
    (kind : old.kind ≡ Client host epoch) where
  abbrev its : Setup
  its = setup_of class old

  abbrev named : ℕ → Connection
  named cid = record { host = host; epoch = epoch; cid = cid }

  -- ---- a connection

  -- a cid above all others is of no connection
  pub unlinked : (l : Looks) → Mirrors class old l → (c : CallName) → c.cid ≡ 4 * length old.table.conns + 4
      → place_of old.table (connection_of c) ≡ None
  unlinked l m c next = of (place_of old.table (connection_of c)) refl
    where
      of : (o : Option ℕ) → place_of old.table (connection_of c) ≡ o → o ≡ None
      of None is = refl
      of (Some place) is =
          (let k = known_at class old l m (connection_of c) place is in
          let low : AmongFirst (length l.conns) k.at.conn =
          every-at (AmongFirst (length l.conns)) l.conns place k.at.conn (m.orderly.conns.low (ap is_client kind))
          k.at.conn_there in
          let same : k.at.conn.connection.cid ≡ c.cid = ap (λ (x : Connection). x.cid) k.named in
          let count = m.conns.conns in
          absurd (omega arith))

  pub linked_some : (new : NodeState) → setup_of class new ≡ setup_of class old
      → (to : Host) (service first : ℕ) (c : CallName)
      → 1 ≤ first → first < 2 ^ 32 → service < 2 ^ 16 → length old.table.conns < old.limits.conns
      → c.cid ≡ 4 * length old.table.conns + 4 → connection_of c ≡ named c.cid
      → ((l : Looks) → Mirrors class old l → 0 ≡ nonce_of old.kind l.entered
      → Orderly its (placed (fresh_conn (connection_of c) to service first l) None l)
      → Mirrors class new (placed (fresh_conn (connection_of c) to service first l) None l))
      → AnswersNode class old new (events.Linked to service first (Ok c.cid))
  linked_some new same to service first c some low fits room next own steps =
      answers_by class old new (events.Linked to service first (Ok c.cid)) same
      (λ h st. allowed_client class old host epoch (looks its h) (events.Linked to service first (Ok c.cid)) kind
      (some, low, fits, accepted (looks its h) st.mirrors))
      (λ h st legal. subst (λ (k : Kind). Mirrors class new (linked k to service first c.cid (looks its h))) (sym kind)
      (subst (λ (x : Connection). Mirrors class new
      (placed (fresh_conn x to service first (looks its h)) None (looks its h))) own
      (steps (looks its h) st.mirrors (ap (λ (k : Kind). nonce_of k (looks its h).entered) (sym kind))
      (subst (λ (x : Connection). Orderly its (placed (fresh_conn x to service first (looks its h)) None (looks its h)))
      (sym own)
      (subst (λ (k : Kind). Orderly its (linked k to service first c.cid (looks its h))) kind
      (orderly_history its (events.Linked to service first (Ok c.cid) ∷ h) legal))))))
    where
      accepted : (l : Looks) → Mirrors class old l → ◌≡◌ {A = Result ℕ ConnFull} (Ok c.cid) (connect_answer its l)
      accepted l m =
          (let count = m.conns.conns in
          let is : nat_le old.limits.conns (length l.conns) ≡ false = room-is (length l.conns) count in
          let cid : c.cid ≡ 4 * length l.conns + 4 = omega arith in
          ap Ok cid ∙ sym (ap (λ (b : Bool). if b then Err (record {}) else Ok (4 * length l.conns + 4)) is))
        where
          room-is : (n : ℕ) → length old.table.conns ≡ n → nat_le old.limits.conns n ≡ false
          room-is n count = grind (arith, nat_tests)

  -- ---- a call

  -- a channel with a key is there
  channel-there : (l : Looks) → Mirrors class old l → (key : ℕ) (ch : Channel) → IsChannel l key ch → IsThere l ch
  channel-there l m key ch at =
      let own : ch.connection ≡ at.conn.connection = ap (λ (d : Channel). d.connection) at.is in
      let chan : ch.chan ≡ key % 4 = ap (λ (d : Channel). d.chan) at.is in
      let four : length at.conn.channels ≡ 4 =
      every-at HasFour l.conns (key / 4) at.conn m.orderly.conns.fours at.there in
      record {
        conn = at.conn;
        there = ap (conn_at l) own ∙ conn_there l.conns (key / 4) at.conn m.orderly.conns.differ at.there;
        within = omega arith;
      }

  pub called_none : (cid : ℕ) (refused : CallRefused)
      → ((l : Looks) → Mirrors class old l → Err refused ≡ call_answer its host epoch l cid)
      → AnswersNode class old old (events.Called cid (Err refused))
  called_none cid refused is =
      unchanged class old host epoch kind (events.Called cid (Err refused)) (λ h st. is (looks its h) st.mirrors)
      (λ h st. refl)

  -- no connection has the cid
  pub unknown_cid : (c : CallName) → connection_of c ≡ named c.cid → place_of old.table (connection_of c) ≡ None
      → (l : Looks) → Mirrors class old l → Err crowds.NoConn ≡ call_answer its host epoch l c.cid
  unknown_cid c own none l m =
      sym (ap (call_of_conn its l) (ap (conn_at l) (sym own) ∙ unknown_at class old l m (connection_of c) none))

  module _ (c : CallName) (own : connection_of c ≡ named c.cid) (place : ℕ)
      (found : place_of old.table (connection_of c) ≡ Some place) where
    -- the answer is that of its channels
    known-answer : (l : Looks) → Mirrors class old l → (x : ConnLooks) × (slice_get l.conns place ≡ Some x)
        × (call_answer its host epoch l c.cid ≡ call_among its l x (filter (is_free l) (channels_of x.connection)))
        × (conn_at l (named c.cid) ≡ Some x)
    known-answer l m =
        let k = known_at class old l m (connection_of c) place found in
        let at : conn_at l (named c.cid) ≡ Some k.at.conn = ap (conn_at l) (sym own) ∙ k.found in
        (k.at.conn, k.at.conn_there, ap (call_of_conn its l) at, at)

    -- none of them may have a call
    pub none_opens : (refused : CallRefused)
        → ((l : Looks) (x : ConnLooks) → Mirrors class old l → slice_get l.conns place ≡ Some x
        → HasNoneOpen l (channels_of x.connection) refused)
        → (l : Looks) → Mirrors class old l → Err refused ≡ call_answer its host epoch l c.cid
    none_opens refused none l m =
        let k = known-answer l m in
        refused_among its l k.0 (channels_of k.0.connection) refused (none l k.0 m k.1) ∙ sym k.2

    module _ (key : ℕ) (opens : (l : Looks) (x : ConnLooks) → Mirrors class old l → slice_get l.conns place ≡ Some x
        → IsFirstOpen l x key) where
      -- as many calls live as may
      pub no_room : old.limits.calls ≤ old.live → (l : Looks) → Mirrors class old l
          → Err crowds.NoRoom ≡ call_answer its host epoch l c.cid
      no_room full l m =
          let k = known-answer l m in
          let o = opens l k.0 m k.1 in
          sym (k.2 ∙ opened_among its l k.0 (channels_of k.0.connection) o.channel o.rest o.first
          ∙ ap (λ (b : Bool). if b then Err crowds.NoRoom else Ok
          (call_named o.channel (next_number k.0.first (channel_at l o.channel).number)))
          (full-is (live l) m.live))
        where
          full-is : (n : ℕ) → old.live ≡ n → nat_le old.limits.calls n ≡ true
          full-is n count = grind (arith, nat_tests)

      module _ (room : old.live < old.limits.calls) (number : ℕ)
          (numbered : (l : Looks) (x : ConnLooks) (ch : Channel) → Mirrors class old l
          → slice_get l.conns place ≡ Some x
          → IsChannel l key ch → number ≡ next_number x.first (channel_at l ch).number) where
        -- the call that starts
        record Starts (l : Looks) : Type 0 where
          channel : Channel
          at : IsChannel l key channel
          answer : Ok (call_named channel number) ≡ call_answer its host epoch l c.cid

        starts : (l : Looks) → Mirrors class old l → Starts l
        starts l m =
            let k = known-answer l m in
            let o = opens l k.0 m k.1 in
            record {
              channel = o.channel;
              at = o.at;
              answer =
                  ap (λ (n : ℕ). Ok (call_named o.channel n)) (numbered l k.0 o.channel m k.1 o.at)
                  ∙ sym (k.2 ∙ opened_among its l k.0 (channels_of k.0.connection) o.channel o.rest o.first
                  ∙ ap (λ (b : Bool). if b then Err crowds.NoRoom else Ok
                  (call_named o.channel (next_number k.0.first (channel_at l o.channel).number)))
                  (room-is (live l) m.live));
            }
          where
            room-is : (n : ℕ) → old.live ≡ n → nat_le old.limits.calls n ≡ false
            room-is n count = grind (arith, nat_tests)

        pub called_some : (new : NodeState) → setup_of class new ≡ setup_of class old → (result : CallName)
            → ((l : Looks) (ch : Channel) → Mirrors class old l → IsChannel l key ch
            → Orderly its (started its lives.Calling (call_named ch number) l)
            → RoomyAt its (started its lives.Calling (call_named ch number) l)
            → Mirrors class new (started its lives.Calling (call_named ch number) l))
            → ((l : Looks) (ch : Channel) → Mirrors class new l → IsChannel l key ch → result ≡ latest_name l ch)
            → AnswersNode class old new (events.Called c.cid (Ok result))
        called_some new same result steps latest =
            answers_by class old new (events.Called c.cid (Ok result)) same
            (λ h st. subst (λ (d : CallName). Allowed its (looks its h) (events.Called c.cid (Ok d)))
            (sym (is h st)) (allows h st (starts (looks its h) st.mirrors)))
            (λ h st legal. subst (λ (d : CallName). Mirrors class new (started its lives.Calling d (looks its h)))
            (sym (is h st)) (mirrors h st (starts (looks its h) st.mirrors)))
          where
            allows : (h : List Event) → StandsNode class old h → (s : Starts (looks its h))
                → Allowed its (looks its h) (events.Called c.cid (Ok (call_named s.channel number)))
            allows h st s =
                allowed_client class old host epoch (looks its h)
                (events.Called c.cid (Ok (call_named s.channel number))) kind
                s.answer

            mirrors : (h : List Event) → StandsNode class old h → (s : Starts (looks its h))
                → Mirrors class new (started its lives.Calling (call_named s.channel number) (looks its h))
            mirrors h st s =
                let legal : Legal its (events.Called c.cid (Ok (call_named s.channel number)) ∷ h) =
                (allows h st s, st.legal) in
                steps (looks its h) s.channel st.mirrors s.at
                (orderly_history its (events.Called c.cid (Ok (call_named s.channel number)) ∷ h) legal)
                (roomy_history its (events.Called c.cid (Ok (call_named s.channel number)) ∷ h) legal)

            is : (h : List Event) (st : StandsNode class old h)
                → result ≡ call_named (starts (looks its h) st.mirrors).channel number
            is h st =
                let l : Looks = looks its h in
                let s : Starts l = starts l st.mirrors in
                let c : CallName = call_named s.channel number in
                latest (started its lives.Calling c l) s.channel (mirrors h st s) (key-started c l key s.channel s.at)
                ∙ ap (λ (q : ChannelLooks). call_named s.channel q.number)
                (channel_started its lives.Calling c l (channel-there l st.mirrors key s.channel s.at))
              where
                key-started : (c : CallName) (l : Looks) (key : ℕ) (ch : Channel) → IsChannel l key ch
                    → IsChannel (started its lives.Calling c l) key ch
                key-started c l key ch at =
                    let k = key_on_channel l (channel_of c) (λ q. fresh_channel c.number) key ch at in
                    record { conn = k.conn; there = k.there; is = k.is }

-- ---- the number of a call that starts

-- it is one
pub some_number : (class : List ℕ → Class) (n : NodeState) (h : List Event) → FitsSetup (setup_of class n)
    → StandsNode class n h → (place : ℕ) (x : ConnLooks) → slice_get (looks (setup_of class n) h).conns place ≡ Some x
    → 1 ≤ x.first
some_number class n h fits st place x there =
    (every-at (GoodConn (setup_of class n)) (looks (setup_of class n) h).conns place x
    (node_stands (setup_of class n) h fits st.legal).conns there).first
