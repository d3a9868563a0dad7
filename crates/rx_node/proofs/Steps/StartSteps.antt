-- A node mirrors what becomes of look-ups where a call starts.
use Rattle.std.proofs.Common.{◌≡◌, ◌+◌, ◌/◌, ◌%◌, ℕ, Bool, true, false, List, if◌then◌else◌}
use Rattle.std.proofs.Common.{Option, Some, None, option_map, refl, ◌∙◌, ap, sym, subst, arith}
use Rattle.std.specs.Prelude.{slice_get, is_some}
use Rattle.std.proofs.lemmas.Bool.{false≢true}
use Rattle.std.proofs.lemmas.List.{length-map}
use Rattle.rx_model.specs.declared.answers.End.{End}
use Rattle.rx_model.specs.declared.names.CallName.{CallName}
use Rattle.rx_model.specs.Names.{Channel, same_channel, same_name}
use Rattle.rx_rules.specs.CallLooks.{CallLooks, fresh_call}
use Rattle.rx_rules.specs.Classes.{Class}
use Rattle.rx_rules.specs.Life.{Life, is_active, is_live}
use Rattle.rx_rules.specs.Looks.{CallRecord, ConnLooks, Looks, call_at, call_named, changed_at, channel_at}
use Rattle.rx_rules.specs.Looks.{fresh_channel}
use Rattle.rx_rules.specs.Looks.{is_call, latest}
use Rattle.rx_rules.specs.Records.{started}
use Rattle.rx_rules.specs.Setup.{Setup, is_client, pace_of}
use Rattle.rx_rules.specs.Slots.{beside, common, live}
use Rattle.rx_model.proofs.NameLaws.{name_is, refuted}
use Rattle.rx_rules.proofs.ConnsLaws.{channel_number, conn_if}
use Rattle.rx_rules.proofs.StartLaws.{call_at-other}
use Rattle.rx_history.proofs.OneCall.{common_started, life_of, live_started, weight_at}
use Rattle.rx_history.proofs.Order.Orderly.{Orderly}
use Rattle.rx_history.proofs.Room.RoomStarts.{RoomyAt}
use Rattle.rx_table.specs.declared.seat.Seat.{Seat}
use Rattle.rx_table.specs.Records.{fresh_seat, seat_at, with_seat}
use Rattle.rx_node.specs.declared.life.Life.{Life as CodeLife}
use Rattle.rx_call_ends.specs.Ends.{EndsState, StandsEnd, beside_looks}
use Rattle.rx_node.specs.Lives.{life_of as life_of_code}
use Rattle.rx_node.specs.Mirrors.{CallStands, ChannelStands, ConnStands, ConnsStand, IsChannel, Mirrors, OwesAs}
use Rattle.rx_node.specs.Node.{IsSeated, NodeState, life_by, setup_of}
use Rattle.rx_node.proofs.Steps.ChannelSteps.{channel_started, channel_unstarted, latest_started, latest_unstarted}
use Rattle.rx_node.proofs.Steps.OwingSteps.{channel_before, channel_unseen, conn_before, conn_stands, key_there}
use Rattle.rx_node.proofs.Steps.OwingSteps.{one_channel}
use Rattle.rx_node.proofs.Steps.OwingSteps.{one_key}
use Rattle.rx_node.proofs.Steps.TableSteps.{changed-length, decided, record_seated, seat_changed, seat_stays, seated}
use Rattle.rx_node.proofs.LifeLaws.{live_if_active}

-- the seat of a call that starts
abbrev pub started_seat : ℕ → ℕ → Seat
started_seat number end = record (fresh_seat number) { live = Some end }

-- what a node keeps of a call that starts
pub record Starts (n : NodeState) (l : Looks) (key number end : ℕ) (life : Life) (ends : EndsState)
    (codes : List CodeLife) : Type 0 where
  pub numbered : number ≡ 0 → ⊥
  pub active : is_active life ≡ true
  pub living : is_live life ≡ true
  pub its_life : option_map life_of_code (slice_get codes key) ≡ Some life
  pub others : (j : ℕ) → (key ≡ j → ⊥) → slice_get codes j ≡ slice_get n.lives j
  pub stands : StandsEnd ends end (fresh_call (record { window = n.limits.window; prompt = n.prompt }) l.now)
  pub aside : (q : ℕ) (looks : CallLooks) → (q ≡ end → ⊥) → StandsEnd n.ends q looks → StandsEnd ends q looks
  pub absent : (k : ℕ) (s : Seat) → seat_at n.table k ≡ Some s → s.live ≡ Some end → ⊥
  pub common : ends.common ≡ n.ends.common

module _ (class : List ℕ → Class) (n : NodeState) (l : Looks) (m : Mirrors class n l) (seats : IsSeated n)
    (key : ℕ) (ch : Channel) (at : IsChannel l key ch) (old : Seat) (there : seat_at n.table key ≡ Some old)
    (free : old.live ≡ None) (number end : ℕ) (life : Life) (ends : EndsState) (codes : List CodeLife)
    (by : Starts n l key number end life ends codes) where
  abbrev c : CallName
  c = call_named ch number

  abbrev seat : Seat
  seat = started_seat number end

  abbrev next : NodeState
  next = record n { table = with_seat n.table key seat; ends = ends; lives = codes; live = n.live + 1 }

  abbrev s : Setup
  s = setup_of class n

  abbrev made : Looks
  made = started s life c l

  abbrev change : ConnLooks → ConnLooks
  change r = record r { channels = changed_at ch.chan (λ q. fresh_channel number) r.channels }

  abbrev fresh : CallRecord
  fresh = record { name = c; life = life; looks = fresh_call (pace_of s) l.now }

  -- the call of this name, if there was one, doesn't live
  not-live : (o : Option CallRecord) → call_at l c ≡ o → is_call (λ k. is_live k.life) o ≡ false
  not-live o is =
      refuted (is_call (λ k. is_live k.life) o)
      (λ lives. (
      let one = m.orderly.latest c (subst (λ (p : Option CallRecord). is_call (λ k. is_live k.life) p ≡ true)
      (sym is) lives) in
      let same : (channel_at l ch).number ≡ number = channel_number l ch ∙ one.number in
      let latest_is : latest l ch ≡ o = ap (λ (k : ℕ). call_at l (call_named ch k)) same ∙ is in
      let none : is_call (λ k. is_live k.life) o ≡ false =
      ap (is_call (λ k. is_live k.life)) (sym latest_is) ∙ sym (m.channels key ch old at there).call.live
      ∙ ap (λ (q : Option ℕ). is_some q) free in
      false≢true (sym none ∙ lives)))

  no-beside : (o : Option CallRecord) → call_at l c ≡ o → weight_at beside o ≡ 0
  no-beside None is = refl
  no-beside (Some k) is =
      ap (λ (b : Bool). if b then beside_looks k.looks else 0)
      (refuted (is_active k.life) (λ active. false≢true (sym (not-live (Some k) is) ∙ live_if_active k.life active)))

  no-life : (o : Option CallRecord) → call_at l c ≡ o → weight_at life_of o ≡ 0
  no-life None is = refl
  no-life (Some k) is = ap (λ (b : Bool). if b then 1 else 0) (not-live (Some k) is)

  start-common : ends.common ≡ common made
  start-common =
      let one : common made + weight_at beside (call_at l c) ≡ common l + beside fresh =
      common_started s life c l m.roomy.differ in
      let none : weight_at beside (call_at l c) ≡ 0 = no-beside (call_at l c) refl in
      let new : beside fresh ≡ 0 = ap (λ (b : Bool). if b then 0 else 0) by.active in
      let same = by.common in
      let before = m.common in
      omega arith

  start-live : n.live + 1 ≡ live made
  start-live =
      let one : live made + weight_at life_of (call_at l c) ≡ live l + life_of fresh =
      live_started s life c l m.roomy.differ in
      let none : weight_at life_of (call_at l c) ≡ 0 = no-life (call_at l c) refl in
      let new : life_of fresh ≡ 1 = ap (λ (b : Bool). if b then 1 else 0) by.living in
      let before = m.live in
      omega arith

  start-conns : ConnsStand next made
  start-conns =
      record {
        conns = changed-length n.table.conns (key / 4) (seated (key % 4) seat) ∙ m.conns.conns
            ∙ sym (length-map l.conns (conn_if ch.connection change));
        links = m.conns.links ∙ sym (length-map l.conns (conn_if ch.connection change));
        each = λ place r link x here linked conn. (
            let b = record_seated n.table key seat place r here in
            let q = conn_before l ch.connection change place x conn in
            subst (λ (y : ConnLooks). ConnStands n.kind r link y) (sym q.is)
            (conn_stands n.kind b.before r link ch.connection change q.before
            (channel_unseen ch.chan (λ q. fresh_channel number)) b.same
            (m.conns.each place b.before link q.before b.there linked q.there)));
      }

  start-own : (d : Channel) (t : Seat) → IsChannel l key d → seat_at next.table key ≡ Some t
      → ChannelStands next made key d t
  start-own d t here is =
      let one : ch ≡ d = one_channel class n l m key ch d at here in
      let same : seat ≡ t = (let both = sym (seat_changed n.table key old seat there) ∙ is in cc (both)) in
      let place = key_there class n l m key ch at in
      subst (λ (e : Channel). ChannelStands next made key e t) one
      (subst (λ (u : Seat). ChannelStands next made key ch u) same
      (record {
        owes = subst (OwesAs seat) (sym (channel_started s life c l place))
            (record { number = refl; abort = refl; busy = refl; challenge = refl; response = refl; ackall = refl });
        call = subst (CallStands next key seat) (sym (latest_started s life c l place))
            (record {
              life = by.its_life;
              live = sym by.living;
              stands = λ q k names call active. (
                  let end_is : end ≡ q = cc (names) in
                  let call_is : fresh ≡ k = cc (call) in
                  subst (λ (j : ℕ). StandsEnd ends j k.looks) end_is
                  (subst (λ (j : CallRecord). StandsEnd ends end j.looks) call_is by.stands));
            });
      }))

  start-other : (k : ℕ) (d : Channel) (t : Seat) → (key ≡ k → ⊥) → IsChannel l k d → seat_at next.table k ≡ Some t
      → ChannelStands next made k d t
  start-other k d t apart here is =
      let is_before : seat_at n.table k ≡ Some t = sym (seat_stays n.table key k seat apart) ∙ is in
      let was = m.channels k d t here is_before in
      let other : same_channel d ch ≡ false = refuted (same_channel d ch)
      (λ same. apart (one_key class n l m key k ch d at here same)) in
      record {
        owes = subst (OwesAs t) (sym (channel_unstarted s life c l d other)) was.owes;
        call = subst (CallStands next k t) (sym (latest_unstarted s life c l d other))
            (record {
              life = aside t.live t.«end» ∙ was.call.life;
              live = was.call.live;
              stands = λ q j names call active.
                  by.aside q j.looks (λ one. by.absent k t is_before (names ∙ ap (λ (e : ℕ). Some e) one))
                  (was.call.stands q j names call active);
            });
      }
    where
      aside : (o : Option ℕ) (e : Option End)
          → life_by codes (is_client n.kind) k o e ≡ life_by n.lives (is_client n.kind) k o e
      aside (Some q) e = ap (option_map life_of_code) (by.others k apart)
      aside None e = refl

  -- it mirrors the start
  pub mirrors_started : Orderly s made → RoomyAt s made → Mirrors class next made
  mirrors_started orderly roomy =
      record {
        now = m.now;
        conns = start-conns;
        channels = λ k d t here is. (
            let before = channel_before l ch.connection change k d (λ r. refl)
            (record { conn = here.conn; there = here.there; is = here.is }) in
            decided (ChannelStands next made k d t) key k
            (λ same. subst (λ (j : ℕ). ChannelStands next made j d t) same
            (start-own d t (subst (λ (j : ℕ). IsChannel l j d) (sym same) before)
            (subst (λ (j : ℕ). seat_at next.table j ≡ Some t) (sym same) is)))
            (λ apart. start-other k d t apart before is));
        live = start-live;
        common = start-common;
        strays = m.strays;
        numbered = λ d zero. call_at-other d fresh l
            (refuted (same_name d c)
            (λ same. by.numbered (sym (ap (λ (e : CallName). e.number) (name_is d c same)) ∙ zero)))
            None (m.numbered d zero);
        orderly = orderly;
        roomy = roomy;
      }
