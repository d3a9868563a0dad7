-- What is left of a node that was polled and gave nothing: it has nothing to give, and no call of it is silent; so what
-- is due next is due later. And where something is due of a node whose calls aren't silent, its next poll gives it.
use Rattle.std.proofs.Common.{◌≡◌, ◌<◌, ◌++◌, ◌&&◌, ℕ, Bool, true, false, cond, List, [], ◌∷◌}
use Rattle.std.proofs.Common.{refl, ap, sym, subst, ◌∙◌, inl, inr, ⊎_elim, Option, Some, None, option_map, map, filter}
use Rattle.std.specs.List.{find}
use Rattle.rx_model.specs.declared.names.CallName.{CallName}
use Rattle.rx_model.specs.declared.stray.Stray.{Stray}
use Rattle.rx_model.specs.Body.{Body}
use Rattle.rx_model.specs.Body as bodies
use Rattle.rx_model.specs.Names.{Channel, Connection, channels_of, connection_of, same_connection, same_name}
use Rattle.rx_model.proofs.NameLaws.{connection_itself, name_is}
use Rattle.rx_rules.proofs.EveryLaws.{Every}
use Rattle.rx_rules.specs.CallItems.{call_items}
use Rattle.rx_rules.specs.Items.{Item, all_channels, busy_items, challenge_body, channel_items, class_items}
use Rattle.rx_rules.specs.Items.{datagram_for, datagram_on, due, item_of, items, items_of, items_on, next_item}
use Rattle.rx_rules.specs.Items.{owed_item, poll_answer, poll_with, where_owed}
use Rattle.rx_rules.specs.Life.{Life, after_silence, is_active, is_live}
use Rattle.rx_rules.specs.Life as lives
use Rattle.rx_rules.specs.Looks.{CallRecord, ChannelLooks, ConnLooks, Looks, call_named, channel_at, conn_at, is_call}
use Rattle.rx_rules.specs.Looks.{latest, latest_name}
use Rattle.rx_rules.specs.Records.{is_silent, silence_of, silenced, unless_silent}
use Rattle.rx_rules.specs.Setup.{Setup, is_client}
use Rattle.rx_between.proofs.Each.EachItem.{In, is_due, least_in}
use Rattle.rx_rounds.proofs.Clocks.NodeClock.{AreAwake, due_later, in_mapped}
use Rattle.rx_between.proofs.Within.{in_either, in_filtered}
use Rattle.rx_rules.proofs.FindLaws.{find_passes}

-- ---- what is looked for is found

found_some : {X : Type 0} (p : X → Bool) (xs : List X) (x : X) → In x xs → p x ≡ true → (y : X) × (find p xs ≡ Some y)
found_some p [] x there holds = absurd there
found_some {X = X} p (y ∷ xs) x (inl same) holds =
    (y, (let here : p y ≡ true = subst (λ (z : X). p z ≡ true) same holds in rw here refl))
found_some {X = X} p (y ∷ xs) x (inr rest) holds =
    (elim (p y) as (λ b. (z : X) × (cond b (Some y) (find p xs) ≡ Some z)) [
      | true ↦ (y, refl)
      | false ↦ found_some p xs x rest holds
    ])

-- ---- an item is of a connection that is there

-- an item is of the channel's connection
abbrev Of : Channel → Item → Type 0
Of ch i = connection_of i.name ≡ ch.connection

owed_of : (ch : Channel) (number : ℕ) (o : Option Body) (i : Item) → In i (owed_item (call_named ch number) o) → Of ch i
owed_of ch number None i there = absurd there
owed_of ch number (Some body) i (inl same) = ap (λ (j : Item). connection_of j.name) same
owed_of ch number (Some body) i (inr none) = absurd none

busy_of : (ch : Channel) (o : Option ℕ) (i : Item) → In i (busy_items ch o) → Of ch i
busy_of ch None i there = absurd there
busy_of ch (Some number) i there = owed_of ch number (Some bodies.Busy) i there

class_of : (s : Setup) (l : Looks) (ch : Channel) (number : ℕ) (q : ChannelLooks) (living : Bool) (i : Item)
    → In i (class_items s l (call_named ch number) q living) → Of ch i
class_of s l ch number q false i there = absurd there
class_of s l ch number q true i there =
    ⊎_elim
    (λ (h : In i (owed_item (call_named ch number) (challenge_body s l (call_named ch number) q.owed_challenge))).
    owed_of ch number (challenge_body s l (call_named ch number) q.owed_challenge) i h)
    (λ (h : In i (owed_item (call_named ch number) (option_map bodies.Response q.owed_response))).
    owed_of ch number (option_map bodies.Response q.owed_response) i h)
    (in_either i (owed_item (call_named ch number) (challenge_body s l (call_named ch number) q.owed_challenge))
    (owed_item (call_named ch number) (option_map bodies.Response q.owed_response)) there)

call_of : (s : Setup) (l : Looks) (ch : Channel) (o : Option CallRecord) (i : Item) → latest l ch ≡ o
    → In i (items_of s l o) → Of ch i
call_of s l ch None i is there = absurd there
call_of s l ch (Some k) i is there =
    (let same : k.name ≡ latest_name l ch =
    name_is k.name (latest_name l ch)
    (find_passes (λ (r : CallRecord). same_name r.name (latest_name l ch)) l.calls k is)
    in
    by (is_active k.life && not_silent) same there)
  where
    not_silent : Bool
    not_silent = Rattle.std.specs.Prelude.not (is_silent l.now k)

    by : (b : Bool) → k.name ≡ latest_name l ch
        → In i (cond b (map (item_of s k) (call_items (is_client s.kind) k.looks)) []) → Of ch i
    by true same here =
        let m = in_mapped (item_of s k) i (call_items (is_client s.kind) k.looks) here in
        ap (λ (j : Item). connection_of j.name) m.2 ∙ ap connection_of same
    by false same none = absurd none

channel_of_item : (s : Setup) (l : Looks) (ch : Channel) (i : Item) → In i (channel_items s l ch) → Of ch i
channel_of_item s l ch i there =
    (let q : ChannelLooks = channel_at l ch in
    let c : CallName = call_named ch q.number in
    let aborts : List Item = owed_item c (option_map bodies.Abort q.owed_abort) in
    let busies : List Item = busy_items ch q.owed_busy in
    let classes : List Item = class_items s l c q (is_call (λ k. is_live k.life) (latest l ch)) in
    let acks : List Item = owed_item c (where_owed q.owed_ackall bodies.AckAll) in
    let own : List Item = items_of s l (latest l ch) in
    ⊎_elim
    (λ (h : In i aborts). owed_of ch q.number (option_map bodies.Abort q.owed_abort) i h)
    (λ (h1 : In i (busies ++ (classes ++ (acks ++ own)))). ⊎_elim
    (λ (h : In i busies). busy_of ch q.owed_busy i h)
    (λ (h2 : In i (classes ++ (acks ++ own))). ⊎_elim
    (λ (h : In i classes). class_of s l ch q.number q (is_call (λ k. is_live k.life) (latest l ch)) i h)
    (λ (h3 : In i (acks ++ own)). ⊎_elim
    (λ (h : In i acks). owed_of ch q.number (where_owed q.owed_ackall bodies.AckAll) i h)
    (λ (h : In i own). call_of s l ch (latest l ch) i refl h)
    (in_either i acks own h3))
    (in_either i classes (acks ++ own) h2))
    (in_either i busies (classes ++ (acks ++ own)) h1))
    (in_either i aborts (busies ++ (classes ++ (acks ++ own))) there))

-- the channel of an item
item_on : (s : Setup) (l : Looks) (chs : List Channel) (i : Item) → In i (items_on s l chs)
    → (ch : Channel) × In ch chs × Of ch i
item_on s l [] i there = absurd there
item_on s l (ch ∷ chs) i there =
    ⊎_elim
    (λ (h : In i (channel_items s l ch)). (ch, inl refl, channel_of_item s l ch i h))
    (λ (h : In i (items_on s l chs)). (let r = item_on s l chs i h in (r.0, inr r.1, r.2)))
    (in_either i (channel_items s l ch) (items_on s l chs) there)

-- the record of a channel
four_of : (x : Connection) (ch : Channel) → In ch (channels_of x) → ch.connection ≡ x
four_of x ch (inl same) = ap (λ (c : Channel). c.connection) same
four_of x ch (inr (inl same)) = ap (λ (c : Channel). c.connection) same
four_of x ch (inr (inr (inl same))) = ap (λ (c : Channel). c.connection) same
four_of x ch (inr (inr (inr (inl same)))) = ap (λ (c : Channel). c.connection) same
four_of x ch (inr (inr (inr (inr none)))) = absurd none

record_of : (rs : List ConnLooks) (ch : Channel) → In ch (all_channels rs)
    → (r : ConnLooks) × In r rs × (ch.connection ≡ r.connection)
record_of [] ch there = absurd there
record_of (r ∷ rs) ch there =
    ⊎_elim
    (λ (h : In ch (channels_of r.connection)). (r, inl refl, four_of r.connection ch h))
    (λ (h : In ch (all_channels rs)). (let q = record_of rs ch h in (q.0, inr q.1, q.2)))
    (in_either ch (channels_of r.connection) (all_channels rs) there)

items_there : (s : Setup) (l : Looks) (i : Item) → In i (items s l)
    → (r : ConnLooks) × (conn_at l (connection_of i.name) ≡ Some r)
items_there s l i there =
    (let on = item_on s l (all_channels l.conns) i there in
    let of = record_of l.conns on.0 on.1 in
    let same : of.0.connection ≡ connection_of i.name = sym (on.2 ∙ of.2) in
    found_some (λ (r : ConnLooks). same_connection r.connection (connection_of i.name)) l.conns of.0 of.1
    (subst (λ (x : Connection). same_connection of.0.connection x ≡ true) same (connection_itself of.0.connection)))

-- ---- a poll that gave nothing

-- a call that ended in silence isn't silent
pub quiet_life : (d : ℕ) (life : Life) → is_active (after_silence d life) ≡ false
quiet_life d lives.Calling = refl
quiet_life d (lives.Ended end) = refl
quiet_life d lives.Waiting = refl
quiet_life d lives.Accepted = refl
quiet_life d lives.Finished = refl
quiet_life d (lives.Broken code) = refl
quiet_life d (lives.Over code) = refl

awake_then : (now : ℕ) (k : CallRecord) → is_silent now (unless_silent now k) ≡ false
awake_then now k =
    (elim (is_silent now k) as (λ b. is_silent now k ≡ b
    → is_silent now (cond b (record k { life = after_silence (silence_of now k) k.life }) k) ≡ false) [
      | true ↦ λ silent. rw (quiet_life (silence_of now k) k.life) refl
      | false ↦ λ awake. awake
    ]) refl

all_awake : (now : ℕ) (ks : List CallRecord)
    → Every (λ (k : CallRecord). is_silent now k ≡ false) (map (unless_silent now) ks)
all_awake now [] = tt
all_awake now (k ∷ ks) = (awake_then now k, all_awake now ks)

-- where no call is silent none ends
pub still_awake : (now : ℕ) (ks : List CallRecord) → Every (λ (k : CallRecord). is_silent now k ≡ false) ks
    → map (unless_silent now) ks ≡ ks
still_awake now [] awake = refl
still_awake now (k ∷ ks) awake =
    (let same : unless_silent now k ≡ k = rw (awake.0) refl in
    λ i. same i ∷ still_awake now ks awake.1 i)

-- a node that was polled out: no stray abort, no item that is due, no silent call
pub record IsPolledOut (s : Setup) (l : Looks) : Type 0 where
  pub strays : l.strays ≡ []
  pub items : next_item s l ≡ None
  pub awake : AreAwake l

-- so a poll that gave nothing leaves it
pub polled_out : (s : Setup) (l : Looks) → poll_answer s l ≡ None → IsPolledOut s (silenced l)
polled_out s l none =
    (let strays : l.strays ≡ [] = no_strays l.strays none in
    let nothing : datagram_for s (silenced l) (next_item s (silenced l)) ≡ None =
    subst (λ (xs : List Stray). poll_with s (silenced l) xs ≡ None) strays none in
    record {
      strays = strays;
      items = no_item (next_item s (silenced l)) refl nothing;
      awake = all_awake l.now l.calls;
    })
  where
    no_strays : (xs : List Stray) → poll_with s (silenced l) xs ≡ None → xs ≡ []
    no_strays [] is = refl
    no_strays (x ∷ xs) is = absurd cc

    no_conn : (i : Item) (o : Option ConnLooks) (r : ConnLooks) → o ≡ Some r → datagram_on s i o ≡ None → ⊥
    no_conn i None r there is = cc
    no_conn i (Some q) r there is = cc

    no_item : (o : Option Item) → next_item s (silenced l) ≡ o → datagram_for s (silenced l) o ≡ None
        → next_item s (silenced l) ≡ None
    no_item None next is = next
    no_item (Some i) next is =
        let there : In i (items s (silenced l)) =
        in_filtered (is_due (silenced l)) i (items s (silenced l))
        (least_in (λ (j : Item). j.rank) i (filter (is_due (silenced l)) (items s (silenced l))) next) in
        let conn = items_there s (silenced l) i there in
        absurd (no_conn i (conn_at (silenced l) (connection_of i.name)) conn.0 conn.1 is)

-- where a node whose calls aren't silent gives nothing, what is due of it is due later
pub awake_later : (s : Setup) (l : Looks) (d : ℕ) → AreAwake l → poll_answer s l ≡ None → due s l ≡ Some d → l.now < d
awake_later s l d awake none is =
    (let same : silenced l ≡ l = ap (λ (ks : List CallRecord). record l { calls = ks })
    (still_awake l.now l.calls awake)
    in
    let out : IsPolledOut s l = subst (λ (m : Looks). IsPolledOut s m) same (polled_out s l none) in
    due_later s l d out.strays out.items out.awake is)
