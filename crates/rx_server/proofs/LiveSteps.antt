-- A message for a live call: whether its packet 1 was kept, and the calls that wait.
use Rattle.std.proofs.Common.{◌≡◌, ◌&&◌, ◌||◌, ◌==◌, ◌+◌, ◌++◌, ◌/◌, ◌%◌, ℕ, if◌then◌else◌, not, nat_le}
use Rattle.std.proofs.Common.{nat_lt, is_some, Bool, true, false, List, [], ◌∷◌}
use Rattle.std.proofs.Common.{Option, Some, None, option_map, refl, ◌∙◌, ap, sym, subst, arith}
use Rattle.std.specs.Prelude.{option_and_then, slice_get, unwrap_or}
use Rattle.std.specs.List.{list_any}
use Rattle.std.proofs.lemmas.Bool.{false≢true}
use Rattle.std.proofs.lemmas.Bool.Decides.{nat_tests}
use Rattle.rx_model.specs.declared.answers.Took.{Took}
use Rattle.rx_model.specs.declared.answers.Took.TheVariants as tooks
use Rattle.rx_model.specs.declared.names.CallName.{CallName}
use Rattle.rx_model.specs.Body.{Body}
use Rattle.rx_model.specs.Body as bodies
use Rattle.rx_model.specs.Message.{Message}
use Rattle.rx_model.specs.Names.{Connection, channel_of, connection_of, same_name}
use Rattle.rx_model.proofs.NameLaws.{neither, refuted, same_number}
use Rattle.rx_rules.specs.After.{taken_at, taken_data, taken_heard, taken_with, with_first}
use Rattle.rx_rules.specs.CallLooks.{NodeView, after_chunk, after_taken, arrival, call_row, found, freed}
use Rattle.rx_rules.specs.CallLooks.{packet_of}
use Rattle.rx_rules.specs.Classes.{Class}
use Rattle.rx_rules.specs.Judging.{live_row, opened}
use Rattle.rx_rules.specs.Life.{is_active, is_live}
use Rattle.rx_rules.specs.Life as lives
use Rattle.rx_rules.specs.Looks.{CallRecord, ConnLooks, Looks, call_at, channel_at, is_call, is_proved}
use Rattle.rx_rules.specs.Looks.{latest_name, on_channel, on_conn}
use Rattle.rx_rules.specs.Received.{Arrival, arrival_row, packet_at}
use Rattle.rx_rules.specs.Records.{started_later}
use Rattle.rx_rules.specs.Setup.{Setup, is_client, nonce_of}
use Rattle.rx_rules.specs.Slots.{node_view}
use Rattle.rx_rules.proofs.CallsLaws.{call_at-on_call, changed_if}
use Rattle.rx_rules.proofs.EveryLaws.{Every}
use Rattle.rx_rules.proofs.FindLaws.{find_passes}
use Rattle.rx_history.proofs.Dimensions.Dims.{Dims, Same, has_first}
use Rattle.rx_history.proofs.Dimensions.DimsTaken.{data_dims, with_dims}
use Rattle.rx_history.proofs.Events.{call-by}
use Rattle.rx_node.specs.Mirrors.{IsChannel, Mirrors, channel_in}
use Rattle.rx_node.specs.Node.{NodeState, setup_of}
use Rattle.rx_node.specs.Steps.{is_response}
use Rattle.rx_queue.specs.Queue.{QueueState, is_listed, is_ready}
use Rattle.rx_server.specs.Server.{FirstsStand, ReadyStand, ServerState, Serves, admits_at, lacks_at, lacks_on, waits}
use Rattle.rx_server.specs.Server.{waits_at, waits_on}
use Rattle.rx_server.specs.Taking.{keeps_first, proves_client}
use Rattle.rx_server.proofs.FirstsLaws.{Both, conn_pair, firsts_behind, firsts_dims, name_stays, passing}
use Rattle.rx_server.proofs.RestLaws.{Rests, data_rests, with_rests}
use Rattle.rx_server.proofs.ReadyLaws.{falls_proved, ready_behind, ready_dims, ready_place}
use Rattle.rx_server.proofs.Serving.{SameRole, challenges_by, serves_quiet}
use Rattle.rx_node.proofs.LifeLaws.{live_if_active}

-- ---- its packet 1 is kept once

-- a packet that is kept was none that had come
kept-new : (a : Arrival) → arrival_row a ≡ tooks.Kept → a.is_repeat ≡ false
kept-new a is =
    (elim a.is_strange as (λ b. (if b then tooks.Strange else if a.is_repeat then tooks.Repeat
    else if a.is_beyond then tooks.Beyond else if a.is_clash then tooks.Clash
    else if a.has_slot then tooks.Kept else tooks.NoSlot) ≡ tooks.Kept → a.is_repeat ≡ false) [
      | true ↦ λ is. absurd (cc (is))
      | false ↦ λ is. (elim a.is_repeat as (λ b. (if b then tooks.Repeat
          else if a.is_beyond then tooks.Beyond else if a.is_clash then tooks.Clash
          else if a.has_slot then tooks.Kept else tooks.NoSlot) ≡ tooks.Kept → b ≡ false) [
            | true ↦ λ is. absurd (cc (is))
            | false ↦ λ is. refl
          ]) is
    ]) is

-- a message whose packet is kept is data
data_kept : (s : Setup) (l : Looks) (k : CallRecord) (m : Message) → live_row s l k m m.body ≡ tooks.Kept
    → (payload : List ℕ) × (m.body ≡ bodies.Chunk payload)
data_kept s l k m is = of m.body refl is
  where
    acks : (b : Bool) → (if b then tooks.Strange else tooks.Heard) ≡ tooks.Kept → ⊥
    acks true is = cc (is)
    acks false is = cc (is)

    alls : (b : Bool) → (if b then tooks.Heard else tooks.Strange) ≡ tooks.Kept → ⊥
    alls true is = cc (is)
    alls false is = cc (is)

    answers : (a b : Bool) → (if a then tooks.Heard else if b then tooks.Strange else tooks.Stopped) ≡ tooks.Kept → ⊥
    answers true b is = cc (is)
    answers false true is = cc (is)
    answers false false is = cc (is)

    of : (b : Body) → m.body ≡ b → live_row s l k m b ≡ tooks.Kept → (payload : List ℕ)
        × (m.body ≡ bodies.Chunk payload)
    of (bodies.Chunk payload) body is = (payload, body)
    of bodies.Busy body is =
        absurd (let row = ap (λ (b : Body). call_row (node_view s l) m b k.looks) (sym body) ∙ is in cc (row))
    of (bodies.Ack a) body is =
        absurd (acks _ (ap (λ (b : Body). call_row (node_view s l) m b k.looks) (sym body) ∙ is))
    of (bodies.Abort code) body is =
        absurd (let row = ap (λ (b : Body). call_row (node_view s l) m b k.looks) (sym body) ∙ is in cc (row))
    of bodies.AckAll body is = absurd (alls _ (ap (λ (b : Body). call_row (node_view s l) m b k.looks) (sym body) ∙ is))
    of (bodies.Challenge bytes) body is = absurd (alls _ is)
    of (bodies.Response bytes) body is = absurd (answers _ _ is)

module _ (s : Setup) (l : Looks) (c : CallName) (k : CallRecord) (m : Message) (key : ℕ)
    (at : IsChannel l key (channel_of c)) (name : latest_name l (channel_of c) ≡ c) (there : call_at l c ≡ Some k)
    (live : is_live k.life ≡ true) where
  -- it begins no call
  opened-own : opened s c l ≡ l
  opened-own = ap (λ (b : Bool). if b then started_later s c l else l) not-above
    where
      number : (channel_at l (channel_of c)).number ≡ c.number
      number = ap (λ (d : CallName). d.number) name

      not-above : nat_lt (channel_at l (channel_of c)).number c.number ≡ false
      not-above = (let is = number in grind (arith, nat_tests))

  -- one whose packet 1 wasn't kept now, and whose client wasn't proved
  pub live_dims : (got : Took) → keeps_first got m.seq ≡ false → proves_client got m.body ≡ false
      → Dims l (taken_with s got c m l) × Rests l (taken_with s got c m l)
  live_dims tooks.Kept other none =
      subst (λ (q : Looks). Dims l (taken_data s tooks.Kept c m q) × Rests l (taken_data s tooks.Kept c m q))
      (sym opened-own) (
        data_dims s tooks.Kept c m l,
        (let p = data_rests s tooks.Kept c m l in
            record {
              firsts = p.firsts ∙ ap (λ (b : Bool). if b then l.firsts ++ c ∷ [] else l.firsts) other;
              entered = p.entered;
              proved = p.proved;
            }),
      )
  live_dims tooks.NoSlot other none =
      subst (λ (q : Looks). Dims l (taken_data s tooks.NoSlot c m q) × Rests l (taken_data s tooks.NoSlot c m q))
      (sym opened-own) (
        data_dims s tooks.NoSlot c m l,
        (let p = data_rests s tooks.NoSlot c m l in
            record { firsts = p.firsts; entered = p.entered; proved = p.proved }),
      )
  live_dims got other none = (with_dims s got c m l refl, with_rests s got c m l refl none)

  -- its call lacked packet 1
  module _ (row : live_row s l k m m.body ≡ tooks.Kept) (first : m.seq ≡ 1) where
    chunk : (payload : List ℕ) × (m.body ≡ bodies.Chunk payload)
    chunk = data_kept s l k m row

    no-first : has_first k.looks ≡ false
    no-first =
        (let view : NodeView = node_view s l in
        let p = packet_of m chunk.0 in
        let here : live_row s l k m (bodies.Chunk chunk.0) ≡ tooks.Kept =
        ap (live_row s l k m) (sym chunk.1) ∙ row in
        let judged : call_row view m (bodies.Chunk chunk.0) k.looks ≡ tooks.Kept =
        ap (λ (b : Body). call_row view m b k.looks) (sym chunk.1) ∙ here in
        let fresh = kept-new (arrival view.client view.window (view.left + freed view.client k.looks) p
        (found view.client k.looks)) judged in
        ap (λ (n : ℕ). is_some (packet_at k.looks.received.kept n)) (sym first)
        ∙ (neither (nat_le m.seq _) (is_some (packet_at k.looks.received.kept m.seq)) fresh).1)

    lacks : lacks_at l key ≡ true
    lacks =
        ap (λ (o : Option ConnLooks). unwrap_or (option_map (λ x. lacks_on l (channel_in x (key % 4))) o) false)
        at.there
        ∙ ap (lacks_on l) (sym at.is)
        ∙ ap (λ (o : Option CallRecord). is_call (λ j. is_live j.life && not (has_first j.looks)) o)
        (ap (call_at l) name ∙ there)
        ∙ (λ i. live i && not (no-first i))

    -- so that its channel isn't listed
    pub not_listed : (firsts : List ℕ) → FirstsStand firsts l → list_any (λ j. j == key) firsts ≡ false
    not_listed firsts f = each firsts f.kept
      where
        each : (ks : List ℕ) → Every (λ j. lacks_at l j ≡ false) ks → list_any (λ j. j == key) ks ≡ false
        each [] all = refl
        each (j ∷ ks) all =
            (λ i. (refuted (j == key)
            (λ same. false≢true (sym all.0 ∙ ap (lacks_at l) (same_number j key same) ∙ lacks))) i
            || each ks all.1 i)

    -- ---- behind it

    abbrev after : Looks
    after = taken_data s tooks.Kept c m l

    abbrev before-push : Looks
    before-push = record after { firsts = l.firsts }

    abbrev mid : Looks
    mid = record (taken_at s tooks.Kept c m l) { firsts = with_first tooks.Kept c m.seq l.firsts }

    dims : Dims l before-push
    dims = (let d = data_dims s tooks.Kept c m l in record { calls = d.calls; conns = d.conns })

    calls-are : after.calls ≡ (taken_at s tooks.Kept c m l).calls
    calls-are = of (not (is_client s.kind) && (s.class.challenges && not (is_proved mid (connection_of c))))
      where
        of : (b : Bool)
            → (if b then on_channel (channel_of c) (λ q. record q { owed_challenge = true }) mid else mid).calls
            ≡ mid.calls
        of true = refl
        of false = refl

    name-after : latest_name before-push (channel_of c) ≡ c
    name-after = name_stays l before-push dims (channel_of c) ∙ name

    abbrev changes : CallRecord → CallRecord
    changes j = record j { looks = after_taken (node_view s l) tooks.Kept m j.looks }

    call-after : call_at before-push c ≡ Some (changes k)
    call-after =
        call-by c (taken_at s tooks.Kept c m l) before-push calls-are
        ∙ call_at-on_call c c changes l (λ j. refl)
        ∙ ap (option_map (changed_if c changes)) there
        ∙ ap (λ (b : Bool). Some (if b then changes k else k)) (find_passes (λ j. same_name j.name c) l.calls k there)

    has-first : has_first (changes k).looks ≡ true
    has-first =
        ap (λ (b : Body). has_first (after_chunk (node_view s l) tooks.Kept m b k.looks)) chunk.1
        ∙ ap (λ (b : Bool). is_some (if b then Some (packet_of m chunk.0).piece else packet_at k.looks.received.kept 1))
        (ap (λ (n : ℕ). n == 1) first)

    conn-after : (y : ConnLooks) × (slice_get before-push.conns (key / 4) ≡ Some y)
        × (channel_in y (key % 4) ≡ channel_of c)
    conn-after = of (slice_get l.conns (key / 4)) (slice_get before-push.conns (key / 4)) refl at.there
        (conn_pair l before-push dims key)
      where
        of : (o q : Option ConnLooks) → slice_get before-push.conns (key / 4) ≡ q → o ≡ Some at.conn → Both Same o q
            → (y : ConnLooks) × (slice_get before-push.conns (key / 4) ≡ Some y)
            × (channel_in y (key % 4) ≡ channel_of c)
        of (Some x) (Some y) is own pair = (
          y,
          is,
          (let same : x ≡ at.conn = cc (own) in
              ap (λ (z : Connection). record { connection = z; chan = key % 4 })
              (pair.alike.connection ∙ ap (λ (r : ConnLooks). r.connection) same) ∙ sym at.is),
        )
        of None q is own pair = absurd (cc (own))
        of (Some x) None is own pair = absurd pair

    waits-own : waits_at before-push key ≡ passing (waits before-push) (Some c)
    waits-own =
        ap (option_and_then (λ x. waits_on before-push (channel_in x (key % 4)))) conn-after.1
        ∙ ap (waits_on before-push) conn-after.2
        ∙ ap (λ (n : CallName). if waits before-push n then Some n else None) name-after

    lacks-none : lacks_at before-push key ≡ false
    lacks-none =
        ap (λ (o : Option ConnLooks). unwrap_or (option_map (λ x. lacks_on before-push (channel_in x (key % 4))) o)
        false)
        conn-after.1
        ∙ ap (lacks_on before-push) conn-after.2
        ∙ ap (λ (o : Option CallRecord). is_call (λ j. is_live j.life && not (has_first j.looks)) o)
        (ap (call_at before-push) name-after ∙ call-after)
        ∙ (λ i. live i && not (has-first i))

    -- its call waits behind the others
    pub listed : (firsts : List ℕ) → FirstsStand firsts l → FirstsStand (firsts ++ key ∷ []) after
    listed firsts f =
        subst (λ (ns : List CallName). FirstsStand (firsts ++ key ∷ []) (record after { firsts = ns })) (sym firsts-are)
        (firsts_behind firsts key c before-push waits-own lacks-none (firsts_dims l before-push dims firsts refl f))
      where
        firsts-are : after.firsts ≡ l.firsts ++ c ∷ []
        firsts-are =
            (data_rests s tooks.Kept c m l).firsts
            ∙ ap (λ (n : ℕ). if n == 1 then l.firsts ++ c ∷ [] else l.firsts) first

-- ---- the server behind it

keeps-first : (got : Took) (seq : ℕ) → keeps_first got seq ≡ true → (got ≡ tooks.Kept) × (seq ≡ 1)
keeps-first tooks.Kept seq is = (refl, same_number seq 1 is)
keeps-first tooks.NoSlot seq is = absurd (cc (is))
keeps-first _ seq is = absurd (cc (is))

module _ (class : List ℕ → Class) (sv : ServerState) (new : NodeState) (l : Looks) (c : CallName) (k : CallRecord)
    (m : Message) (key : ℕ) (at : IsChannel l key (channel_of c)) (name : latest_name l (channel_of c) ≡ c)
    (there : call_at l c ≡ Some k) (live : is_live k.life ≡ true) (got : Took) (role : SameRole sv.node new)
    (mirrors : Mirrors class new (taken_with (setup_of class sv.node) got c m l)) (serves : Serves class sv l) where
  abbrev s : Setup
  s = setup_of class sv.node

  -- it goes on with the channels that were listed
  pub serves_live : keeps_first got m.seq ≡ false → proves_client got m.body ≡ false
      → Serves class (record sv { node = new }) (taken_with s got c m l)
  serves_live other none =
      (let both = live_dims s l c k m key at name there live got other none in
      serves_quiet class sv new l (taken_with s got c m l) role both.0 both.1 mirrors serves)

  module _ (row : got ≡ live_row s l k m m.body) (first : keeps_first got m.seq ≡ true) where
    kept : (got ≡ tooks.Kept) × (m.seq ≡ 1)
    kept = keeps-first got m.seq first

    here : live_row s l k m m.body ≡ tooks.Kept
    here = sym row ∙ kept.0

    is-after : taken_with s got c m l ≡ taken_data s tooks.Kept c m l
    is-after =
        ap (λ (t : Took). taken_with s t c m l) kept.0
        ∙ ap (taken_data s tooks.Kept c m) (opened-own s l c k m key at name there live)

    -- a channel is listed once
    pub new_channel : is_listed sv.firsts key ≡ false
    new_channel = not_listed s l c k m key at name there live here kept.1 sv.firsts.order serves.firsts

    -- or with its own behind them, ready where its calls may be given to a handler
    pub serves_first : (firsts : QueueState) → firsts.order ≡ sv.firsts.order ++ key ∷ []
        → ((q : ℕ) → is_ready sv.firsts q ≡ true → is_ready firsts q ≡ true)
        → (admits_at (class new.secret).challenges (taken_with s got c m l) key ≡ true → is_ready firsts key ≡ true)
        → Serves class (record sv { node = new; firsts = firsts }) (taken_with s got c m l)
    serves_first firsts order keeps own =
        record {
          mirrors = mirrors;
          nonce = serves.nonce ∙ (λ i. nonce_of (sym role.kind i) (sym entered i));
          firsts = subst (λ (keys : List ℕ). FirstsStand keys (taken_with s got c m l)) (sym order)
              (subst (λ (q : Looks). FirstsStand (sv.firsts.order ++ key ∷ []) q) (sym is-after)
              (listed s l c k m key at name there live here kept.1 sv.firsts.order serves.firsts));
          ready = ready_behind (class new.secret).challenges sv.firsts firsts (taken_with s got c m l) key order keeps
              own
              (subst (λ (b : Bool). ReadyStand b sv.firsts (taken_with s got c m l))
              (sym (challenges_by class sv.node new role))
              (subst (λ (q : Looks). ReadyStand (class sv.node.secret).challenges sv.firsts q) (sym is-after)
              (ready_dims (class sv.node.secret).challenges sv.firsts l (taken_data s tooks.Kept c m l)
              (data_dims s tooks.Kept c m l) (data_rests s tooks.Kept c m l).proved serves.ready)));
        }
      where
        entered : (taken_with s got c m l).entered ≡ l.entered
        entered = ap (λ (q : Looks). q.entered) is-after ∙ (data_rests s tooks.Kept c m l).entered

  -- ---- its client is proved

  proves-heard : (took : Took) (body : Body) → proves_client took body ≡ true
      → (took ≡ tooks.Heard) × ((bytes : List ℕ) × (body ≡ bodies.Response bytes))
  proves-heard tooks.Heard body is = (refl, of body is)
    where
      of : (b : Body) → is_response b ≡ true → (bytes : List ℕ) × (b ≡ bodies.Response bytes)
      of (bodies.Response bytes) is = (bytes, refl)
      of (bodies.Chunk payload) is = absurd (cc (is))
      of bodies.Busy is = absurd (cc (is))
      of (bodies.Ack a) is = absurd (cc (is))
      of (bodies.Abort code) is = absurd (cc (is))
      of bodies.AckAll is = absurd (cc (is))
      of (bodies.Challenge bytes) is = absurd (cc (is))
  proves-heard _ body is = absurd (cc (is))

  module _ (proves : proves_client got m.body ≡ true) where
    said : (got ≡ tooks.Heard) × ((bytes : List ℕ) × (m.body ≡ bodies.Response bytes))
    said = proves-heard got m.body proves

    abbrev proving : ConnLooks → ConnLooks
    proving r = record r { proved = true }

    abbrev behind : Looks
    behind = on_conn (connection_of c) proving (taken_at s tooks.Heard c m l)

    heard-is : taken_with s tooks.Heard c m l ≡ behind
    heard-is = ap (λ (b : Body). taken_heard s c b (taken_at s tooks.Heard c m l)) said.1.1

    is-behind : taken_with s got c m l ≡ behind
    is-behind = ap (λ (t : Took). taken_with s t c m l) said.0 ∙ heard-is

    dims-behind : Dims l behind
    dims-behind = subst (λ (q : Looks). Dims l q) heard-is (with_dims s tooks.Heard c m l refl)

    -- the channels of its connection are ready then
    pub serves_proved : (firsts : QueueState) → firsts.order ≡ sv.firsts.order
        → ((q : ℕ) → is_ready sv.firsts q ≡ true → is_ready firsts q ≡ true)
        → ((q : ℕ) → q / 4 ≡ key / 4 → is_listed sv.firsts q ≡ true → is_ready firsts q ≡ true)
        → Serves class (record sv { node = new; firsts = firsts }) (taken_with s got c m l)
    serves_proved firsts order keeps own =
        record {
          mirrors = mirrors;
          nonce = serves.nonce
              ∙ (λ i. nonce_of (sym role.kind i) (sym (ap (λ (q : Looks). q.entered) is-behind) i));
          firsts = subst (λ (keys : List ℕ). FirstsStand keys (taken_with s got c m l)) (sym order)
              (subst (λ (q : Looks). FirstsStand sv.firsts.order q) (sym is-behind)
              (firsts_dims l behind dims-behind sv.firsts.order refl serves.firsts));
          ready = subst (λ (b : Bool). ReadyStand b firsts (taken_with s got c m l))
              (sym (challenges_by class sv.node new role))
              (subst (λ (q : Looks). ReadyStand (class sv.node.secret).challenges firsts q) (sym is-behind)
              (ready_place (class sv.node.secret).challenges sv.firsts firsts l behind (key / 4) order keeps own
              (falls_proved (class sv.node.secret).challenges l behind c key proving dims-behind refl s
              serves.mirrors.orderly at) serves.ready));
        }

-- ---- a call that is active

-- it is there, and lives
pub active_there : (l : Looks) (c : CallName) → is_call (λ k. is_active k.life) (call_at l c) ≡ true
    → (k : CallRecord) × (call_at l c ≡ Some k) × (is_live k.life ≡ true)
active_there l c is = of (call_at l c) refl is
  where
    of : (o : Option CallRecord) → call_at l c ≡ o → is_call (λ k. is_active k.life) o ≡ true
        → (k : CallRecord) × (call_at l c ≡ Some k) × (is_live k.life ≡ true)
    of None there is = absurd (cc (is))
    of (Some k) there is = (k, there, live_if_active k.life is)

-- the same of the one that is there
pub live_there : (l : Looks) (c : CallName) (k : CallRecord) → is_call (λ k. is_active k.life) (call_at l c) ≡ true
    → call_at l c ≡ Some k → is_live k.life ≡ true
live_there l c k is there =
    live_if_active k.life (sym (ap (λ (o : Option CallRecord). is_call (λ j. is_active j.life) o) there) ∙ is)
