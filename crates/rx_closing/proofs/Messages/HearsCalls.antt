-- A client that answers a message of a call as one that was heard has the call at work, and heard of it now.
use Rattle.std.proofs.Common.{◌≡◌, ◌&&◌, cond, if◌then◌else◌, not, nat_lt, ℕ, Bool, true, false, List, ◌∷◌, ◌==◌}
use Rattle.std.proofs.Common.{Option, Some, None, option_map, Result, Ok, refl, ◌∙◌, ap, sym, subst, arith}
use Rattle.std.proofs.lemmas.Bool.Decides.{nat_tests}
use Rattle.rx_model.specs.declared.answers.BadMsg.{BadMsg}
use Rattle.rx_model.specs.declared.answers.Took.{Took}
use Rattle.rx_model.specs.declared.answers.Took.TheVariants as tooks
use Rattle.rx_model.specs.declared.event.Event.{Event}
use Rattle.rx_model.specs.declared.event.Event.TheVariants as events
use Rattle.rx_model.specs.declared.names.CallName.{CallName}
use Rattle.rx_model.specs.declared.names.Host.{Host}
use Rattle.rx_model.specs.declared.wire.TheConstants.{CLIENT_INITIATED}
use Rattle.rx_model.specs.Body.{Body}
use Rattle.rx_model.specs.Body as bodies
use Rattle.rx_model.specs.Message.{Message, has_flag}
use Rattle.rx_model.specs.Names.{channel_of, connection_of}
use Rattle.rx_model.specs.Reading.{reading_of}
use Rattle.rx_model.proofs.NameLaws.{name_itself}
use Rattle.rx_rules.specs.After.{looks, prepared, settled, taken_at, taken_behind, taken_data, taken_heard}
use Rattle.rx_rules.specs.After.{taken_message, taken_with, with_first}
use Rattle.rx_rules.specs.CallLooks.{CallLooks, NodeView, after_chunk, after_taken, call_row, is_delivered}
use Rattle.rx_rules.specs.Judging.{Facts, client_outer, client_row, else_row, facts_of, is_for_clients, is_peer, opened}
use Rattle.rx_rules.specs.Judging.{outer_row, own_row, side_row, took_named, took_of, took_reading}
use Rattle.rx_rules.specs.Life.{after_acks, is_active}
use Rattle.rx_rules.specs.Life as lives
use Rattle.rx_rules.specs.Looks.{CallRecord, Looks, call_at, channel_at, conn_at, is_call, on_call}
use Rattle.rx_rules.specs.Rules.{AllowedAt, Legal}
use Rattle.rx_rules.specs.Sent.{is_all_given, is_strange_ack}
use Rattle.rx_rules.specs.Setup.{Setup, Kind, Server, Client, named}
use Rattle.rx_rules.specs.Slots.{node_view}
use Rattle.rx_history.proofs.Calls.{call-changed}
use Rattle.rx_history.proofs.Events.{call-by, calls-prepared}
use Rattle.rx_history.proofs.Moments.{now-prepared}
use Rattle.rx_history.proofs.Room.RoomTaken.{challenged-calls}
use Rattle.rx_between.proofs.Each.EachChange.{taken_alike}
use Rattle.rx_between.proofs.Each.EachStep.{is_own}
use Rattle.rx_between.proofs.OwnRows.{OwnRows, RowOf, own_rows, own_past}
use Rattle.rx_between.proofs.Prepared.{prepared_number}
use Rattle.rx_closing.specs.Silence.{is_hearing}
use Rattle.rx_closing.proofs.Messages.Rows.{latest_is, opens_none}

-- the two words for it
pub own_hearing : (got : Took) → is_hearing got ≡ true → is_own got ≡ true
own_hearing tooks.Kept is = refl
own_hearing tooks.Repeat is = refl
own_hearing tooks.Beyond is = refl
own_hearing tooks.Clash is = refl
own_hearing tooks.NoSlot is = refl
own_hearing tooks.Heard is = refl
own_hearing _ is = absurd cc

not_own : (a b : Took) → is_own a ≡ false → is_own b ≡ true → a ≡ b → ⊥
not_own a b other own same = (let no : false ≡ true = sym other ∙ ap is_own same ∙ own in cc (no))

-- ---- an end that answers so heard now

-- an answer of a data packet
abbrev is_packet : Took → Bool
is_packet tooks.Kept = true
is_packet tooks.Repeat = true
is_packet tooks.Beyond = true
is_packet tooks.Clash = true
is_packet tooks.NoSlot = true
is_packet _ = false

packet_only : (v : NodeView) (m : Message) (body : Body) (k : CallLooks) (got : Took) → is_packet got ≡ true
    → call_row v m body k ≡ got → (after_chunk v got m body k).heard ≡ v.now
packet_only v m body k got packet row = of body row
  where
    no : (other : Took) → is_packet other ≡ false → other ≡ got → ⊥
    no other none same = (let both : false ≡ true = sym none ∙ ap is_packet same ∙ packet in cc (both))

    none_by : (b : Bool) (x y : Took) → is_packet x ≡ false → is_packet y ≡ false
        → is_packet (if b then x else y) ≡ false
    none_by true x y p q = p
    none_by false x y p q = q

    of : (body : Body) → call_row v m body k ≡ got → (after_chunk v got m body k).heard ≡ v.now
    of (bodies.Chunk payload) row = refl
    of (bodies.Ack a) row =
        absurd (no (call_row v m (bodies.Ack a) k)
        (none_by (is_strange_ack a.first a.marks k.sent) tooks.Strange tooks.Heard refl refl) row)
    of bodies.AckAll row =
        absurd (no (call_row v m bodies.AckAll k)
        (none_by (is_all_given k.sent) tooks.Heard tooks.Strange refl refl) row)
    of (bodies.Abort code) row = absurd (no tooks.Stopped refl row)
    of _ row = absurd (no tooks.Heard refl row)

pub heard_own : (v : NodeView) (got : Took) (m : Message) (k : CallLooks) → is_own got ≡ true
    → call_row v m m.body k ≡ got → (after_taken v got m k).heard ≡ v.now
heard_own v tooks.Kept m k own row = packet_only v m m.body k tooks.Kept refl row
heard_own v tooks.Repeat m k own row = packet_only v m m.body k tooks.Repeat refl row
heard_own v tooks.Beyond m k own row = packet_only v m m.body k tooks.Beyond refl row
heard_own v tooks.Clash m k own row = packet_only v m m.body k tooks.Clash refl row
heard_own v tooks.NoSlot m k own row = packet_only v m m.body k tooks.NoSlot refl row
heard_own v tooks.Heard m k own row = refl
heard_own v _ m k own row = absurd cc

-- ---- the rows in front, at a client

-- the message is of the channel's latest call, which is at work
record PastRows (f : Facts) : Type 0 where
  below : f.is_below ≡ false
  above : f.is_above ≡ false
  active : f.is_active ≡ true

past_rows : (f : Facts) (call got : Took) → is_own got ≡ true → client_row f call ≡ got → PastRows f
past_rows f call got own is =
    let a = own_past f.stops_all tooks.Stopped _ got own refl is in
    let b = own_past (not f.has_number) tooks.Strange _ got own refl a.1 in
    let d = own_past f.is_below tooks.Old _ got own refl b.1 in
    let e = own_past f.is_above tooks.Strange _ got own refl d.1 in
    let g = own_past (not f.is_active) tooks.Over call got own refl e.1 in
    record { below = d.0; above = e.0; active = un_not f.is_active g.0 }
  where
    un_not : (b : Bool) → not b ≡ false → b ≡ true
    un_not true is = refl
    un_not false is = absurd cc

outer_other : (s : Setup) (l : Looks) (from : Host) (m : Message) (row : Took) → client_outer s l from m ≡ Some row
    → is_own row ≡ false
outer_other s l from m row is =
    of (has_flag CLIENT_INITIATED m.flags) (is_peer from (conn_at l (connection_of (named s from m))))
    ((m.index == s.class.index) && is_for_clients s.class.challenges m.body) is
  where
    one : (x : Took) → is_own x ≡ false → ◌≡◌ {A = Option Took} (Some x) (Some row) → is_own row ≡ false
    one x other same = (let both : x ≡ row = cc (same) in sym (ap is_own both) ∙ other)

    of : (a b d : Bool)
        → (if a then Some tooks.Foreign else if not b then Some tooks.Strange else if not d then Some
        tooks.Strange else None)
        ≡ Some row → is_own row ≡ false
    of true b d is = one tooks.Foreign refl is
    of false false d is = one tooks.Strange refl is
    of false true false is = one tooks.Strange refl is
    of false true true is = absurd (let no : ◌≡◌ {A = Option Took} None (Some row) = is in cc (no))

-- ---- a message that a client hears

-- the call was at work before, and was heard now
pub record HearsNow (s : Setup) (h : List Event) (e : Event) (c : CallName) : Type 0 where
  pub call : CallRecord
  pub there : call_at (looks s h) c ≡ Some call
  pub active : is_active call.life ≡ true
  pub behind : CallRecord
  pub after_it : call_at (looks s (e ∷ h)) c ≡ Some behind
  pub heard : behind.looks.heard ≡ (looks s h).now
  pub calls : call.life ≡ lives.Calling → behind.life ≡ lives.Calling

module _ (s : Setup) (host : Host) (epoch : ℕ) (kind : s.kind ≡ Client host epoch) (h : List Event) (from : Host)
    (bytes : List ℕ) (got : Took) (legal : Legal s (events.Taken from bytes got ∷ h)) (m : Message)
    (reads : reading_of bytes ≡ Ok m) (own : is_own got ≡ true) where
  abbrev l : Looks
  l = looks s h

  abbrev c : CallName
  c = named s from m

  answer : got ≡ took_of s l from bytes
  answer = of s.kind legal.0
    where
      of : (q : Kind) → AllowedAt q s l (events.Taken from bytes got) → got ≡ took_of s l from bytes
      of (Server service nonces) allowed = allowed.1
      of (Client its_host its_epoch) allowed = allowed.1

  judged : else_row (outer_row s s.kind l from m) (took_named s l c m) ≡ got
  judged = sym (ap (took_reading s l from) reads) ∙ sym answer

  front : outer_row s s.kind l from m ≡ None
  front = of (outer_row s s.kind l from m) refl judged
    where
      of : (o : Option Took) → outer_row s s.kind l from m ≡ o → else_row o (took_named s l c m) ≡ got
          → outer_row s s.kind l from m ≡ None
      of None is same = is
      of (Some row) is same =
          absurd (not_own row got
          (outer_other s l from m row (ap (λ (q : Kind). outer_row s q l from m) (sym kind) ∙ is)) own same)

  row_is : took_named s l c m ≡ got
  row_is = ap (λ (o : Option Took). else_row o (took_named s l c m)) (sym front) ∙ judged

  rows : PastRows (facts_of s l c m)
  rows =
      past_rows (facts_of s l c m) (own_row s (opened s c l) c m) got own
      (ap (λ (q : Kind). side_row q (facts_of s l c m) (own_row s (opened s c l) c m)) (sym kind) ∙ row_is)

  number : (channel_at l (channel_of c)).number ≡ c.number
  number =
      (let below : nat_lt m.number (channel_at l (channel_of c)).number ≡ false = rows.below in
      let above : nat_lt (channel_at l (channel_of c)).number m.number ≡ false = rows.above in
      grind (arith, nat_tests))

  own_row_is : OwnRows s l c m got
  own_row_is = own_rows s l c m got refl own row_is

  found : RowOf own_row_is.view m got (call_at l c)
  found = own_row_is.there (rows.above)

  works : is_active found.call.life ≡ true
  works =
      ap (is_call (λ (r : CallRecord). is_active r.life)) (sym found.there)
      ∙ ap (is_call (λ (r : CallRecord). is_active r.life)) (sym (latest_is l c number)) ∙ rows.active

  -- ---- behind it

  abbrev ready : Looks
  ready = prepared s got (connection_of c) l

  abbrev takes_it : CallRecord → CallRecord
  takes_it j = record j { looks = after_taken (node_view s ready) got m j.looks }

  taken : CallLooks
  taken = after_taken (node_view s ready) got m found.call.looks

  heard_then : taken.heard ≡ l.now
  unfolding taken
  heard_then =
      ap (λ (k : CallLooks). k.heard)
      (taken_alike (node_view s ready) own_row_is.view got m found.call.looks (sym own_row_is.view_is.client)
      (now-prepared s got (connection_of c) l ∙ sym own_row_is.view_is.now))
      ∙ heard_own own_row_is.view got m found.call.looks own found.row ∙ own_row_is.view_is.now

  at_there : call_at (taken_at s got c m ready) c ≡ Some (record found.call { looks = taken })
  unfolding taken
  at_there =
      call-changed c c takes_it ready (λ j. refl)
      ∙ ap (λ (b : Bool). cond b (option_map takes_it (call_at ready c)) (call_at ready c)) (name_itself c)
      ∙ ap (λ (o : Option CallRecord). option_map takes_it o)
      (call-by c l ready (calls-prepared s got (connection_of c) l) ∙ found.there)

  -- the record that is there has what its end took
  record HasTaken (n : Looks) : Type 0 where
    behind : CallRecord
    there : call_at n c ≡ Some behind
    looks_are : behind.looks ≡ taken
    calls : found.call.life ≡ lives.Calling → behind.life ≡ lives.Calling

  has_at : (n : Looks) → n.calls ≡ (taken_at s got c m ready).calls → HasTaken n
  has_at n same =
      record {
        behind = record found.call { looks = taken };
        there = call-by c (taken_at s got c m ready) n same ∙ at_there;
        looks_are = refl;
        calls = λ is. is;
      }

  has_settled : (n : Looks) → n.calls ≡ (on_call c settled (taken_at s got c m ready)).calls → HasTaken n
  has_settled n same =
      record {
        behind = settled (record found.call { looks = taken });
        there =
            call-by c (on_call c settled (taken_at s got c m ready)) n same
            ∙ call-changed c c settled (taken_at s got c m ready) (λ j. refl)
            ∙ ap (λ (b : Bool). cond b (option_map settled (call_at (taken_at s got c m ready) c))
            (call_at (taken_at s got c m ready) c)) (name_itself c)
            ∙ ap (λ (o : Option CallRecord). option_map settled o) at_there;
        looks_are = refl;
        calls = λ is. ap (after_acks (is_delivered taken)) is;
      }

  has_data : HasTaken (taken_data s got c m ready)
  has_data =
      has_at (taken_data s got c m ready)
      (challenged-calls s c (record (taken_at s got c m ready) { firsts = with_first got c m.seq ready.firsts }))

  has_heard : (body : Body) → HasTaken (taken_heard s c body (taken_at s got c m ready))
  has_heard (bodies.Ack a) =
      has_settled _ (challenged-calls s c (on_call c settled (taken_at s got c m ready)))
  has_heard bodies.AckAll = has_settled _ refl
  has_heard _ = has_at _ refl

  opens_same : opened s c ready ≡ ready
  opens_same = opens_none s ready c (prepared_number s got l (channel_of c) ∙ number)

  has_by : (g : Took) → got ≡ g → HasTaken (taken_with s g c m ready)
  has_by tooks.Kept is =
      subst (λ (x : Took). HasTaken (taken_data s x c m (opened s c ready))) is
      (subst (λ (n : Looks). HasTaken (taken_data s got c m n)) (sym opens_same) has_data)
  has_by tooks.NoSlot is =
      subst (λ (x : Took). HasTaken (taken_data s x c m (opened s c ready))) is
      (subst (λ (n : Looks). HasTaken (taken_data s got c m n)) (sym opens_same) has_data)
  has_by tooks.Heard is =
      subst (λ (x : Took). HasTaken (taken_heard s c m.body (taken_at s x c m ready))) is (has_heard m.body)
  has_by tooks.Stopped is = absurd (not_own tooks.Stopped got refl own (sym is))
  has_by tooks.Busy is = absurd (not_own tooks.Busy got refl own (sym is))
  has_by tooks.NoRoom is = absurd (not_own tooks.NoRoom got refl own (sym is))
  has_by tooks.Over is = absurd (not_own tooks.Over got refl own (sym is))
  has_by tooks.Full is = absurd (not_own tooks.Full got refl own (sym is))
  has_by tooks.Old is = absurd (not_own tooks.Old got refl own (sym is))
  has_by tooks.Unserved is = absurd (not_own tooks.Unserved got refl own (sym is))
  has_by tooks.Foreign is = absurd (not_own tooks.Foreign got refl own (sym is))
  has_by tooks.Strange is = absurd (not_own tooks.Strange got refl own (sym is))
  has_by (tooks.Bad bad) is = absurd (not_own (tooks.Bad bad) got refl own (sym is))
  has_by _ is = subst (λ (x : Took). HasTaken (taken_data s x c m ready)) is has_data

  pub hears_now : HearsNow s h (events.Taken from bytes got) (named s from m)
  hears_now =
      let b = has_by got refl in
      record {
        call = found.call;
        there = found.there;
        active = works;
        behind = b.behind;
        after_it =
            ap (λ (r : Result Message BadMsg). call_at (taken_message s from r got l) c) reads
            ∙ ap (λ (o : Option Took). call_at (taken_behind s o from c m got l) c) front ∙ b.there;
        heard = ap (λ (k : CallLooks). k.heard) b.looks_are ∙ heard_then;
        calls = b.calls;
      }
