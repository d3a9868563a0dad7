-- The channels of calls whose packet 1 was kept, where a connection is entered.
use Rattle.std.proofs.Common.{◌≡◌, ◌<◌, ◌&&◌, ◌/◌, ◌%◌, ℕ, zero, suc, if◌then◌else◌, is_some, not, Bool, true, false}
use Rattle.std.proofs.Common.{List, [], ◌∷◌, ◌++◌}
use Rattle.std.proofs.Common.{map, nat_le, Option, Some, None, option_map, refl, ◌∙◌, ap, sym, arith}
use Rattle.std.specs.Prelude.{◌-◌, option_and_then, slice_get, unwrap_or}
use Rattle.std.specs.List.{find, list_any}
use Rattle.std.proofs.lemmas.Bool.{false≢true}
use Rattle.std.proofs.lemmas.Option.{slice_get-map}
use Rattle.rx_model.specs.declared.names.CallName.{CallName}
use Rattle.rx_model.specs.declared.names.Host.{Host}
use Rattle.rx_model.specs.declared.wire.TheConstants.{IDLE_MS}
use Rattle.rx_model.specs.Names.{Channel, Connection, same_connection, same_name}
use Rattle.rx_model.proofs.NameLaws.{connection_is, connection_itself, neither, refuted}
use Rattle.rx_rules.specs.Life.{is_live, is_waiting}
use Rattle.rx_rules.specs.Looks.{CallRecord, ChannelLooks, ConnLooks, Looks, call_at, call_named, channel_at, conn_at}
use Rattle.rx_rules.specs.Looks.{fresh_channel}
use Rattle.rx_rules.specs.Looks.{is_call, latest, latest_name}
use Rattle.rx_rules.specs.Records.{fresh_conn, has_live, is_idle, placed}
use Rattle.rx_rules.specs.Setup.{Setup}
use Rattle.rx_rules.proofs.FindLaws.{find-before, find-last}
use Rattle.rx_history.proofs.Order.Orderly.{Orderly}
use Rattle.rx_history.proofs.Dimensions.Dims.{has_first}
use Rattle.rx_node.specs.Mirrors.{channel_in}
use Rattle.rx_queue.specs.Queue.{QueueState}
use Rattle.rx_server.specs.Server.{FirstsStand, ReadyStand, lacks_at, lacks_on, waits, waits_at, waits_on}
use Rattle.rx_node.proofs.Steps.ChannelSteps.{channel_of_record, conn_there}
use Rattle.rx_node.proofs.Steps.PlaceSteps.{four as fresh-number}
use Rattle.rx_server.proofs.FirstsLaws.{firsts_alike, on_alike, waits_lives}
use Rattle.rx_server.proofs.ReadyLaws.{FallsAt, admits_there, every_all, ready_alike, waits_there}

-- a channel without a call
pub silent-channel : (l m : Looks) (d : Channel) → m.calls ≡ l.calls
    → ((c : CallName) → c.number ≡ 0 → call_at l c ≡ None) → channel_at m d ≡ fresh_channel 0
    → (waits_on m d ≡ None) × (lacks_on m d ≡ false)
silent-channel l m d calls numbered fresh = (
  (λ i. if is_call (λ k. is_waiting k.life) (none i) then Some (latest_name m d) else None),
  ap (λ (o : Option CallRecord). is_call (λ k. is_live k.life && not (has_first k.looks)) o) none,
)
  where
    none : latest m d ≡ None
    none =
        ap (λ (q : ChannelLooks). call_at m (call_named d q.number)) fresh
        ∙ ap (λ (ks : List CallRecord). find (λ k. same_name k.name (call_named d 0)) ks) calls
        ∙ numbered (call_named d 0) refl

-- no call of a connection lives
none-live : (l : Looks) (x : Connection) (n : ℕ) → n < 4 → has_live l x ≡ false
    → is_call (λ k. is_live k.life) (latest l (record { connection = x; chan = n })) ≡ false
none-live l x n low none = of n low
  where
    p : Channel → Bool
    p ch = is_call (λ k. is_live k.life) (latest l ch)

    at : ℕ → Channel
    at i = record { connection = x; chan = i }

    first : (p (at 0) ≡ false) × (list_any p (at 1 ∷ at 2 ∷ at 3 ∷ []) ≡ false)
    first = neither (p (at 0)) (list_any p (at 1 ∷ at 2 ∷ at 3 ∷ [])) none

    second : (p (at 1) ≡ false) × (list_any p (at 2 ∷ at 3 ∷ []) ≡ false)
    second = neither (p (at 1)) (list_any p (at 2 ∷ at 3 ∷ [])) first.1

    third : (p (at 2) ≡ false) × (list_any p (at 3 ∷ []) ≡ false)
    third = neither (p (at 2)) (list_any p (at 3 ∷ [])) second.1

    fourth : (p (at 3) ≡ false) × (list_any p [] ≡ false)
    fourth = neither (p (at 3)) (list_any p []) third.1

    of : (i : ℕ) → i < 4 → p (at i) ≡ false
    of zero low = first.0
    of (suc zero) low = second.0
    of (suc (suc zero)) low = third.0
    of (suc (suc (suc zero))) low = fourth.0
    of (suc (suc (suc (suc i)))) low = absurd (omega arith)

-- a channel whose latest call doesn't live
pub dead_channel : (l : Looks) (d : Channel) → is_call (λ k. is_live k.life) (latest l d) ≡ false
    → (waits_on l d ≡ None) × (lacks_on l d ≡ false)
dead_channel l d dead = (
  ap (λ (b : Bool). if b then Some (latest_name l d) else None)
      (refuted (waits l (latest_name l d)) (λ yes. false≢true (sym dead ∙ waits_lives l (latest_name l d) yes))),
  of (latest l d) dead,
)
  where
    of : (o : Option CallRecord) → is_call (λ k. is_live k.life) o ≡ false
        → is_call (λ k. is_live k.life && not (has_first k.looks)) o ≡ false
    of None is = refl
    of (Some k) is = ap (λ (b : Bool). b && not (has_first k.looks)) is

module _ (s : Setup) (l : Looks) (o : Orderly s l) (numbered : (c : CallName) → c.number ≡ 0 → call_at l c ≡ None)
    (x : Connection) (peer : Host) (service number : ℕ) where
  abbrev new : ConnLooks
  new = fresh_conn x peer service number l

  abbrev waits_in : Looks → ℕ → Option ConnLooks → Option CallName
  waits_in m key q = option_and_then (λ r. waits_on m (channel_in r (key % 4))) q

  abbrev lacks_in : Looks → ℕ → Option ConnLooks → Bool
  lacks_in m key q = unwrap_or (option_map (λ r. lacks_on m (channel_in r (key % 4))) q) false

  -- ---- in the next place

  module _ (absent : conn_at l x ≡ None) where
    abbrev more : Looks
    more = placed new None l

    more-new : (key : ℕ) → (waits_on more (channel_in new (key % 4)) ≡ None)
        × (lacks_on more (channel_in new (key % 4)) ≡ false)
    more-new key =
        silent-channel l more (channel_in new (key % 4)) refl numbered
        (ap (λ (q : Option ConnLooks). channel_of_record q (key % 4))
        (find-last (λ q. same_connection q.connection x) l.conns new absent
        ∙ ap (λ (b : Bool). if b then Some new else None) (connection_itself x))
        ∙ fresh-number (key % 4) (omega arith) x)

    at-place : (xs : List ConnLooks) (i : ℕ) (y : ConnLooks) → slice_get xs i ≡ Some y
        → slice_get (xs ++ new ∷ []) i ≡ Some y
    at-place [] i y there = absurd (cc (there))
    at-place (z ∷ zs) zero y there = there
    at-place (z ∷ zs) (suc i) y there = at-place zs i y there

    past : (xs : List ConnLooks) (i : ℕ) → slice_get xs i ≡ None
        → (P : Option ConnLooks → Type 0) → P None → P (Some new) → P (slice_get (xs ++ new ∷ []) i)
    past [] zero none P here there = there
    past [] (suc i) none P here there = here
    past (z ∷ zs) zero none P here there = absurd (cc (none))
    past (z ∷ zs) (suc i) none P here there = past zs i none P here there

    more-at : (key : ℕ) → (waits_at more key ≡ waits_at l key) × (lacks_at more key ≡ lacks_at l key)
    more-at key = of (slice_get l.conns (key / 4)) refl
      where
        of : (q : Option ConnLooks) → slice_get l.conns (key / 4) ≡ q
            → (waits_at more key ≡ waits_at l key) × (lacks_at more key ≡ lacks_at l key)
        of None is = (
          past l.conns (key / 4) is (λ q. waits_in more key q ≡ None) refl (more-new key).0
              ∙ sym (ap (waits_in l key) is),
          past l.conns (key / 4) is (λ q. lacks_in more key q ≡ false) refl (more-new key).1
              ∙ sym (ap (lacks_in l key) is),
        )
        of (Some r) is =
            (let d : Channel = channel_in r (key % 4) in
            let found : conn_at l r.connection ≡ Some r = conn_there l.conns (key / 4) r o.conns.differ is in
            let after : conn_at more r.connection ≡ Some r =
            find-before (λ q. same_connection q.connection r.connection) l.conns new r found in
            let same : channel_at more d ≡ channel_at l d =
            ap (λ (q : Option ConnLooks). channel_of_record q d.chan) (after ∙ sym found) in
            let alike = on_alike l more d (ap (λ (q : ChannelLooks). call_named d q.number) same)
            (ap (λ (q : ChannelLooks). call_at l (call_named d q.number)) same) in
            let there = at-place l.conns (key / 4) r is in (
              ap (waits_in more key) there ∙ alike.0 ∙ sym (ap (waits_in l key) is),
              ap (lacks_in more key) there ∙ alike.1 ∙ sym (ap (lacks_in l key) is),
            ))

    -- the channels that are listed stay listed
    pub firsts_entered : (firsts : List ℕ) → FirstsStand firsts l → FirstsStand firsts more
    firsts_entered firsts f =
        firsts_alike firsts l more (every_all _ firsts (λ k. (more-at k).0)) (every_all _ firsts (λ k. (more-at k).1))
        refl f

    -- and ready
    pub stand_entered : (b : Bool) (q : QueueState) → ReadyStand b q l → ReadyStand b q more
    stand_entered b q =
        ready_alike b q l more
        (every_all (FallsAt b l more) q.order
        (λ k waiting admitted. (
        let before : is_some (waits_at l k) ≡ true =
        ap (λ (w : Option CallName). is_some w) (sym (more-at k).0) ∙ waiting in
        let own = waits_there l k before in (
          before,
          admits_there b l k own.0 own.1
              ∙ sym (admits_there b more k own.0 (at-place l.conns (k / 4) own.0 own.1)) ∙ admitted,
        ))))

  -- ---- in the place of one that is idle

  module _ (old : ConnLooks) (place : ℕ) (here : slice_get l.conns place ≡ Some old) (idle : is_idle l old ≡ true)
      (after : Orderly s (placed new (Some old) l)) where
    abbrev other : Looks
    other = placed new (Some old) l

    abbrev instead : ConnLooks → ConnLooks
    instead r = if same_connection r.connection old.connection then new else r

    none-lives : has_live l old.connection ≡ false
    none-lives = of (has_live l old.connection) (nat_le IDLE_MS (l.now - old.last_use)) idle
      where
        of : (a b : Bool) → (not a && b) ≡ true → a ≡ false
        of true b is = absurd (cc (is))
        of false b is = refl

    other-at : (key : ℕ) → (waits_at other key ≡ waits_at l key) × (lacks_at other key ≡ lacks_at l key)
    other-at key = of (slice_get l.conns (key / 4)) refl
      where
        mapped : slice_get other.conns (key / 4) ≡ option_map instead (slice_get l.conns (key / 4))
        mapped = slice_get-map instead l.conns (key / 4)

        by : (r : ConnLooks) (b : Bool) → same_connection r.connection old.connection ≡ b
            → slice_get l.conns (key / 4) ≡ Some r
            → slice_get other.conns (key / 4) ≡ Some (if b then new else r)
            → (waits_at other key ≡ waits_at l key) × (lacks_at other key ≡ lacks_at l key)
        by r true own is there =
            (let behind : conn_at other x ≡ Some new =
            conn_there other.conns (key / 4) new after.conns.differ there in
            let gone = silent-channel l other (channel_in new (key % 4)) refl numbered
            (ap (λ (q : Option ConnLooks). channel_of_record q (key % 4)) behind
            ∙ fresh-number (key % 4) (omega arith) x) in
            let named : r.connection ≡ old.connection = connection_is r.connection old.connection own in
            let dead = dead_channel l (channel_in r (key % 4))
            (ap (λ (y : Connection). is_call (λ k. is_live k.life)
            (latest l (record { connection = y; chan = key % 4 })))
            named ∙ none-live l old.connection (key % 4) (omega arith) none-lives) in (
              ap (waits_in other key) there ∙ gone.0 ∙ sym (ap (waits_in l key) is ∙ dead.0),
              ap (lacks_in other key) there ∙ gone.1 ∙ sym (ap (lacks_in l key) is ∙ dead.1),
            ))
        by r false apart is there =
            (let d : Channel = channel_in r (key % 4) in
            let found : conn_at l r.connection ≡ Some r = conn_there l.conns (key / 4) r o.conns.differ is in
            let behind : conn_at other r.connection ≡ Some r =
            conn_there other.conns (key / 4) r after.conns.differ there in
            let same : channel_at other d ≡ channel_at l d =
            ap (λ (q : Option ConnLooks). channel_of_record q d.chan) (behind ∙ sym found) in
            let alike = on_alike l other d (ap (λ (q : ChannelLooks). call_named d q.number) same)
            (ap (λ (q : ChannelLooks). call_at l (call_named d q.number)) same) in (
              ap (waits_in other key) there ∙ alike.0 ∙ sym (ap (waits_in l key) is),
              ap (lacks_in other key) there ∙ alike.1 ∙ sym (ap (lacks_in l key) is),
            ))

        of : (q : Option ConnLooks) → slice_get l.conns (key / 4) ≡ q
            → (waits_at other key ≡ waits_at l key) × (lacks_at other key ≡ lacks_at l key)
        of None is =
            (let there = mapped ∙ ap (option_map instead) is in (
              ap (waits_in other key) there ∙ sym (ap (waits_in l key) is),
              ap (lacks_in other key) there ∙ sym (ap (lacks_in l key) is),
            ))
        of (Some r) is =
            by r (same_connection r.connection old.connection) refl is (mapped ∙ ap (option_map instead) is)

    -- the channels that are listed stay listed
    pub firsts_replaced : (firsts : List ℕ) → FirstsStand firsts l → FirstsStand firsts other
    firsts_replaced firsts f =
        firsts_alike firsts l other (every_all _ firsts (λ k. (other-at k).0))
        (every_all _ firsts (λ k. (other-at k).1))
        refl f

    none-waits : (key : ℕ) (r : ConnLooks) → slice_get l.conns (key / 4) ≡ Some r
        → same_connection r.connection old.connection ≡ true → waits_at l key ≡ None
    none-waits key r is own =
        ap (waits_in l key) is
        ∙ (dead_channel l (channel_in r (key % 4))
        (ap (λ (y : Connection). is_call (λ k. is_live k.life) (latest l (record { connection = y; chan = key % 4 })))
        (connection_is r.connection old.connection own)
        ∙ none-live l old.connection (key % 4) (omega arith) none-lives)).0

    -- and ready
    pub stand_replaced : (b : Bool) (q : QueueState) → ReadyStand b q l → ReadyStand b q other
    stand_replaced b q =
        ready_alike b q l other
        (every_all (FallsAt b l other) q.order
        (λ k waiting admitted. (
        let before : is_some (waits_at l k) ≡ true =
        ap (λ (w : Option CallName). is_some w) (sym (other-at k).0) ∙ waiting in
        let own = waits_there l k before in
        let r : ConnLooks = own.0 in
        let apart : same_connection r.connection old.connection ≡ false =
        refuted (same_connection r.connection old.connection)
        (λ same. false≢true (sym (ap (λ (w : Option CallName). is_some w) (none-waits k r own.1 same)) ∙ before)) in
        let there : slice_get other.conns (k / 4) ≡ Some r =
        slice_get-map instead l.conns (k / 4) ∙ ap (option_map instead) own.1
        ∙ ap (λ (t : Bool). Some (if t then new else r)) apart in
        (before, admits_there b l k r own.1 ∙ sym (admits_there b other k r there) ∙ admitted))))
