-- Connections in their places, their channels and the latest calls of these, where a node changes.
use Rattle.std.proofs.Common.{◌≡◌, ◌<◌, ◌||◌, ◌++◌, ℕ, zero, suc, cond, if◌then◌else◌, true, false, List, [], ◌∷◌}
use Rattle.std.proofs.Common.{length}
use Rattle.std.proofs.Common.{map, Option, Some, None, option_map, refl, ◌∙◌, ap, sym, subst, arith}
use Rattle.std.specs.Prelude.{option_and_then, slice_get, unwrap_or}
use Rattle.std.specs.List.{find, list_any}
use Rattle.std.proofs.lemmas.Bool.{false≢true}
use Rattle.rx_model.specs.declared.names.CallName.{CallName}
use Rattle.rx_model.specs.Names.{Channel, Connection, channel_of, same_channel, same_connection, same_name}
use Rattle.rx_rules.specs.Looks.{CallRecord, ChannelLooks, ConnLooks, Looks, call_at, call_named, changed_at}
use Rattle.rx_rules.specs.Looks.{channel_at}
use Rattle.rx_rules.specs.Looks.{conn_at, fresh_channel, latest, latest_name, on_call, on_channel, on_conn}
use Rattle.rx_model.proofs.NameLaws.{channel_itself, connection_is, connection_itself, connection_sym, name_is}
use Rattle.rx_model.proofs.NameLaws.{name_itself, neither, refuted}
use Rattle.rx_rules.proofs.CallsLaws.{KeepsNames, call_at-on_call, changed_if}
use Rattle.rx_rules.proofs.ConnsLaws.{channel_number, conn_at-on_conn, conn_if, number_in, number_of}
use Rattle.rx_rules.proofs.StartLaws.{call_at-other}
use Rattle.rx_rules.specs.CallLooks.{fresh_call}
use Rattle.rx_rules.specs.Life.{Life}
use Rattle.rx_rules.specs.Records.{started, with_call}
use Rattle.rx_rules.specs.Setup.{Setup, pace_of}
use Rattle.rx_rules.proofs.EveryLaws.{Every}
use Rattle.rx_rules.proofs.FindLaws.{find_passes}
use Rattle.rx_history.proofs.Differ.{Differ, by_connection}
use Rattle.rx_history.proofs.Dimensions.Dims.{number-kept}

-- ---- connections by place

pub every-at : {X : Type 0} (P : X → Type 0) (xs : List X) (i : ℕ) (x : X) → Every P xs → slice_get xs i ≡ Some x → P x
every-at P [] i x all there = absurd (cc (there))
every-at P (y ∷ ys) zero x all there = (let same : y ≡ x = cc (there) in subst P same all.0)
every-at P (y ∷ ys) (suc i) x all there = every-at P ys i x all.1 there

-- the connection at a place is the one of its name
pub conn_there : (rs : List ConnLooks) (place : ℕ) (x : ConnLooks) → Differ by_connection rs
    → slice_get rs place ≡ Some x
    → find (λ r. same_connection r.connection x.connection) rs ≡ Some x
conn_there [] place x differ there = absurd (cc (there))
conn_there (r ∷ rs) zero x differ there =
    (let is : r ≡ x = cc (there) in
    rw (ap (λ (q : ConnLooks). same_connection r.connection q.connection) (sym is)
    ∙ connection_itself r.connection) there)
conn_there (r ∷ rs) (suc place) x differ there =
    (let other : same_connection r.connection x.connection ≡ false =
    connection_sym r.connection x.connection ∙ every-at (λ y. by_connection y r ≡ false) rs place x differ.0 there in
    rw other (conn_there rs place x differ.1 there))

-- two places with connections of one name are one
pub place_is : (rs : List ConnLooks) (a b : ℕ) (x y : ConnLooks) → Differ by_connection rs → slice_get rs a ≡ Some x
    → slice_get rs b ≡ Some y → same_connection x.connection y.connection ≡ true → a ≡ b
place_is [] a b x y differ here there same = absurd (cc (here))
place_is (r ∷ rs) zero zero x y differ here there same = refl
place_is (r ∷ rs) zero (suc b) x y differ here there same =
    (let is : r ≡ x = cc (here) in
    let apart = every-at (λ q. by_connection q r ≡ false) rs b y differ.0 there in
    absurd (false≢true (sym apart ∙ ap (λ (q : ConnLooks). same_connection y.connection q.connection) is
    ∙ connection_sym y.connection x.connection ∙ same)))
place_is (r ∷ rs) (suc a) zero x y differ here there same =
    (let is : r ≡ y = cc (there) in
    let apart = every-at (λ q. by_connection q r ≡ false) rs a x differ.0 here in
    absurd (false≢true (sym apart ∙ ap (λ (q : ConnLooks). same_connection x.connection q.connection) is ∙ same)))
place_is (r ∷ rs) (suc a) (suc b) x y differ here there same = ap suc (place_is rs a b x y differ.1 here there same)

-- ---- a channel changes

-- the n-th of a list that changes
pub changed-own : (qs : List ChannelLooks) (n : ℕ) (change : ChannelLooks → ChannelLooks)
    → slice_get (changed_at n change qs) n ≡ option_map change (slice_get qs n)
changed-own [] n change = refl
changed-own (q ∷ qs) zero change = refl
changed-own (q ∷ qs) (suc n) change = changed-own qs n change

-- another
pub changed-other : (qs : List ChannelLooks) (m n : ℕ) (change : ChannelLooks → ChannelLooks) → (m ≡ n → ⊥)
    → slice_get (changed_at m change qs) n ≡ slice_get qs n
changed-other [] m n change other = refl
changed-other (q ∷ qs) zero zero change other = absurd (other refl)
changed-other (q ∷ qs) zero (suc n) change other = refl
changed-other (q ∷ qs) (suc m) zero change other = refl
changed-other (q ∷ qs) (suc m) (suc n) change other = changed-other qs m n change (λ same. other (ap suc same))

-- what a connection's record says of its n-th channel
abbrev pub channel_of_record : Option ConnLooks → ℕ → ChannelLooks
channel_of_record o chan = unwrap_or (option_and_then (λ r. slice_get r.channels chan) o) (fresh_channel 0)

-- a channel that is there
pub record IsThere (l : Looks) (ch : Channel) : Type 0 where
  pub conn : ConnLooks
  pub there : conn_at l ch.connection ≡ Some conn
  pub within : ch.chan < length conn.channels

changed-there : (ch : Channel) (f : ChannelLooks → ChannelLooks) (x : ConnLooks) → ch.chan < length x.channels
    → same_connection x.connection ch.connection ≡ true
    → channel_of_record (Some (conn_if ch.connection (λ r. record r { channels = changed_at ch.chan f r.channels }) x))
    ch.chan
    ≡ f (channel_of_record (Some x) ch.chan)
changed-there ch f x within own =
    rw own (ap (λ (o : Option ChannelLooks). unwrap_or o (fresh_channel 0)) (changed-own x.channels ch.chan f)
    ∙ mapped (slice_get x.channels ch.chan) (there x.channels ch.chan within))
  where
    there : (qs : List ChannelLooks) (n : ℕ) → n < length qs → slice_get qs n ≡ None → ⊥
    there [] n low none = omega arith
    there (q ∷ qs) zero low none = cc (none)
    there (q ∷ qs) (suc n) low none = there qs n (omega arith) none

    mapped : (o : Option ChannelLooks) → (o ≡ None → ⊥)
        → unwrap_or (option_map f o) (fresh_channel 0) ≡ f (unwrap_or o (fresh_channel 0))
    mapped None some = absurd (some refl)
    mapped (Some q) some = refl

-- the channel that changes
pub channel_changed : (l : Looks) (ch : Channel) (f : ChannelLooks → ChannelLooks) → IsThere l ch
    → channel_at (on_channel ch f l) ch ≡ f (channel_at l ch)
channel_changed l ch f at =
    ap (λ (o : Option ConnLooks). channel_of_record o ch.chan)
    (conn_at-on_conn ch.connection ch.connection (λ r. record r { channels = changed_at ch.chan f r.channels }) l
    (λ r. refl) ∙ ap (option_map (conn_if ch.connection (λ r. record r { channels = changed_at ch.chan f r.channels })))
    at.there)
    ∙ changed-there ch f at.conn at.within
    (find_passes (λ r. same_connection r.connection ch.connection) l.conns at.conn at.there)
    ∙ ap (λ (o : Option ConnLooks). f (channel_of_record o ch.chan)) (sym at.there)

other-there : (ch d : Channel) (f : ChannelLooks → ChannelLooks) (o : Option ConnLooks)
    → ((x : ConnLooks) → o ≡ Some x → same_connection x.connection d.connection ≡ true) → same_channel d ch ≡ false
    → channel_of_record (option_map
    (conn_if ch.connection (λ r. record r { channels = changed_at ch.chan f r.channels })) o) d.chan
    ≡ channel_of_record o d.chan
other-there ch d f None named other = refl
other-there ch d f (Some x) named other =
    (elim (same_connection x.connection ch.connection) as (λ b. same_connection x.connection ch.connection ≡ b
    → channel_of_record (Some (cond b (record x { channels = changed_at ch.chan f x.channels }) x)) d.chan
    ≡ channel_of_record (Some x) d.chan) [
      | true ↦ λ own. ap (λ (o : Option ChannelLooks). unwrap_or o (fresh_channel 0))
          (changed-other x.channels ch.chan d.chan f (λ same. apart own same))
      | false ↦ λ none. refl
    ]) refl
  where
    apart : same_connection x.connection ch.connection ≡ true → ch.chan ≡ d.chan → ⊥
    apart own same =
        let here : x.connection ≡ ch.connection = connection_is x.connection ch.connection own in
        let there : x.connection ≡ d.connection = connection_is x.connection d.connection (named x refl) in
        let is : d ≡ ch = (let conns : d.connection ≡ ch.connection = sym there ∙ here in
        λ i. record { connection = conns i; chan = sym same i }) in
        false≢true (sym other ∙ ap (λ (e : Channel). same_channel d e) (sym is) ∙ channel_itself d)

-- another channel
pub channel_stays : (l : Looks) (ch d : Channel) (f : ChannelLooks → ChannelLooks) → same_channel d ch ≡ false
    → channel_at (on_channel ch f l) d ≡ channel_at l d
channel_stays l ch d f other =
    ap (λ (o : Option ConnLooks). channel_of_record o d.chan)
    (conn_at-on_conn d.connection ch.connection (λ r. record r { channels = changed_at ch.chan f r.channels }) l
    (λ r. refl))
    ∙ other-there ch d f (conn_at l d.connection)
    (λ x there. find_passes (λ r. same_connection r.connection d.connection) l.conns x there) other

-- ---- latest calls

-- a channel whose number stays has the same latest call, where the calls stay
pub latest_by : (l m : Looks) (ch : Channel) → m.calls ≡ l.calls → (channel_at m ch).number ≡ (channel_at l ch).number
    → latest m ch ≡ latest l ch
latest_by l m ch calls number =
    ap (λ (ks : List CallRecord). find (λ k. same_name k.name (latest_name m ch)) ks) calls
    ∙ ap (λ (n : ℕ). call_at l (call_named ch n)) number

-- a call that is a channel's latest changes
pub latest_changed : (l : Looks) (ch : Channel) (c : CallName) (f : CallRecord → CallRecord) → KeepsNames f
    → latest_name l ch ≡ c → latest (on_call c f l) ch ≡ option_map f (latest l ch)
latest_changed l ch c f keeps is =
    call_at-on_call (latest_name l ch) c f l keeps
    ∙ mapped (call_at l (latest_name l ch))
    (λ k there. find_passes (λ k. same_name k.name (latest_name l ch)) l.calls k there)
  where
    mapped : (o : Option CallRecord) → ((k : CallRecord) → o ≡ Some k → same_name k.name (latest_name l ch) ≡ true)
        → option_map (changed_if c f) o ≡ option_map f o
    mapped None named = refl
    mapped (Some k) named = rw (ap (λ (d : CallName). same_name k.name d) (sym is) ∙ named k refl) refl

-- a call that isn't
pub latest_stays : (l : Looks) (ch : Channel) (c : CallName) (f : CallRecord → CallRecord) → KeepsNames f
    → same_name (latest_name l ch) c ≡ false → latest (on_call c f l) ch ≡ latest l ch
latest_stays l ch c f keeps other =
    call_at-on_call (latest_name l ch) c f l keeps
    ∙ mapped (call_at l (latest_name l ch))
    (λ k there. find_passes (λ k. same_name k.name (latest_name l ch)) l.calls k there)
  where
    mapped : (o : Option CallRecord) → ((k : CallRecord) → o ≡ Some k → same_name k.name (latest_name l ch) ≡ true)
        → option_map (changed_if c f) o ≡ o
    mapped None named = refl
    mapped (Some k) named =
        rw (ap (λ (d : CallName). same_name d c) (name_is k.name (latest_name l ch) (named k refl)) ∙ other) refl

-- ---- numbers

number-at : (ch : Channel) (f : ChannelLooks → ChannelLooks) (o : Option ConnLooks) (n : ℕ)
    → ((q : ChannelLooks) → (f q).number ≡ q.number)
    → number_of (option_map (conn_if ch.connection (λ r. record r { channels = changed_at ch.chan f r.channels })) o) n
    ≡ number_of o n
number-at ch f None n keeps = refl
number-at ch f (Some r) n keeps =
    (elim (same_connection r.connection ch.connection)
    as (λ b. number_in (cond b (record r { channels = changed_at ch.chan f r.channels }) r).channels n
    ≡ number_in r.channels n) [
      | true ↦ number-kept r.channels ch.chan n f keeps
      | false ↦ refl
    ])

-- a change of what a channel owes leaves each channel its number
pub number_stays : (l : Looks) (ch d : Channel) (f : ChannelLooks → ChannelLooks)
    → ((q : ChannelLooks) → (f q).number ≡ q.number)
    → (channel_at (on_channel ch f l) d).number ≡ (channel_at l d).number
number_stays l ch d f keeps =
    channel_number (on_channel ch f l) d
    ∙ ap (λ (o : Option ConnLooks). number_of o d.chan)
    (conn_at-on_conn d.connection ch.connection (λ r. record r { channels = changed_at ch.chan f r.channels }) l
    (λ r. refl))
    ∙ number-at ch f (conn_at l d.connection) d.chan keeps ∙ sym (channel_number l d)

-- and its latest call
pub latest_owing : (l : Looks) (ch d : Channel) (f : ChannelLooks → ChannelLooks)
    → ((q : ChannelLooks) → (f q).number ≡ q.number) → latest (on_channel ch f l) d ≡ latest l d
latest_owing l ch d f keeps = latest_by l (on_channel ch f l) d refl (number_stays l ch d f keeps)

-- ---- a connection changes

-- a change that leaves a connection its name and its channels
pub record LeavesChannels (f : ConnLooks → ConnLooks) : Type 0 where
  pub name : (r : ConnLooks) → (f r).connection ≡ r.connection
  pub channels : (r : ConnLooks) → (f r).channels ≡ r.channels

-- leaves each channel as it was
pub channel_on_conn : (l : Looks) (x : Connection) (d : Channel) (f : ConnLooks → ConnLooks) → LeavesChannels f
    → channel_at (on_conn x f l) d ≡ channel_at l d
channel_on_conn l x d f leaves =
    ap (λ (o : Option ConnLooks). channel_of_record o d.chan) (conn_at-on_conn d.connection x f l leaves.name)
    ∙ of (conn_at l d.connection)
  where
    of : (o : Option ConnLooks) → channel_of_record (option_map (conn_if x f) o) d.chan ≡ channel_of_record o d.chan
    of None = refl
    of (Some r) =
        (elim (same_connection r.connection x)
        as (λ b. channel_of_record (Some (cond b (f r) r)) d.chan ≡ channel_of_record (Some r) d.chan) [
          | true ↦ ap (λ (qs : List ChannelLooks). unwrap_or (slice_get qs d.chan) (fresh_channel 0))
              (leaves.channels r)
          | false ↦ refl
        ])

-- and its latest call
pub latest_on_conn : (l : Looks) (x : Connection) (d : Channel) (f : ConnLooks → ConnLooks) → LeavesChannels f
    → latest (on_conn x f l) d ≡ latest l d
latest_on_conn l x d f leaves =
    latest_by l (on_conn x f l) d refl (ap (λ (q : ChannelLooks). q.number) (channel_on_conn l x d f leaves))

-- ---- a call starts

found-new : (new : CallRecord) (ks : List CallRecord)
    → find (λ k. same_name k.name new.name) (with_call new ks) ≡ Some new
found-new new ks =
    (elim (list_any (λ k. same_name k.name new.name) ks) as (λ b. list_any (λ k. same_name k.name new.name) ks ≡ b
    → find (λ k. same_name k.name new.name)
    (cond b (map (λ k. if same_name k.name new.name then new else k) ks) (ks ++ new ∷ [])) ≡ Some new) [
      | true ↦ λ some. instead ks some
      | false ↦ λ none. behind ks none
    ]) refl
  where
    instead : (js : List CallRecord) → list_any (λ k. same_name k.name new.name) js ≡ true
        → find (λ k. same_name k.name new.name) (map (λ k. if same_name k.name new.name then new else k) js) ≡ Some new
    instead [] some = absurd (cc (some))
    instead (j ∷ js) some =
        (elim (same_name j.name new.name) as (λ b. same_name j.name new.name ≡ b
        → (b || list_any (λ k. same_name k.name new.name) js) ≡ true
        → cond (same_name (cond b new j).name new.name) (Some (cond b new j))
        (find (λ k. same_name k.name new.name) (map (λ k. if same_name k.name new.name then new else k) js))
        ≡ Some new) [
          | true ↦ λ own some. rw (name_itself new.name) refl
          | false ↦ λ other some. rw other (instead js some)
        ]) refl some

    behind : (js : List CallRecord) → list_any (λ k. same_name k.name new.name) js ≡ false
        → find (λ k. same_name k.name new.name) (js ++ new ∷ []) ≡ Some new
    behind [] none = rw (name_itself new.name) refl
    behind (j ∷ js) none =
        (let t = neither (same_name j.name new.name) (list_any (λ k. same_name k.name new.name) js) none in
        rw t.0 (behind js t.1))

-- the channel of a call that starts
pub channel_started : (s : Setup) (life : Life) (c : CallName) (l : Looks) → IsThere l (channel_of c)
    → channel_at (started s life c l) (channel_of c) ≡ fresh_channel c.number
channel_started s life c l at = channel_changed l (channel_of c) (λ q. fresh_channel c.number) at

-- another
pub channel_unstarted : (s : Setup) (life : Life) (c : CallName) (l : Looks) (d : Channel)
    → same_channel d (channel_of c) ≡ false → channel_at (started s life c l) d ≡ channel_at l d
channel_unstarted s life c l d other = channel_stays l (channel_of c) d (λ q. fresh_channel c.number) other

-- its latest call is the one that started
pub latest_started : (s : Setup) (life : Life) (c : CallName) (l : Looks) → IsThere l (channel_of c)
    → latest (started s life c l) (channel_of c)
    ≡ Some (record { name = c; life = life; looks = fresh_call (pace_of s) l.now })
latest_started s life c l at =
    ap (λ (q : ChannelLooks). call_at (started s life c l) (call_named (channel_of c) q.number))
    (channel_started s life c l at)
    ∙ found-new (record { name = c; life = life; looks = fresh_call (pace_of s) l.now }) l.calls

-- that of another channel stays
pub latest_unstarted : (s : Setup) (life : Life) (c : CallName) (l : Looks) (d : Channel)
    → same_channel d (channel_of c) ≡ false → latest (started s life c l) d ≡ latest l d
latest_unstarted s life c l d other =
    ap (λ (q : ChannelLooks). call_at (started s life c l) (call_named d q.number))
    (channel_unstarted s life c l d other)
    ∙ call_at-other (latest_name l d)
    (record { name = c; life = life; looks = fresh_call (pace_of s) l.now }) l
    (refuted (same_name (latest_name l d) c) (λ same. apart same)) (latest l d) refl
  where
    apart : same_name (latest_name l d) c ≡ true → ⊥
    apart same =
        let is : channel_of (latest_name l d) ≡ channel_of c = ap channel_of (name_is (latest_name l d) c same) in
        false≢true (sym other ∙ ap (λ (e : Channel). same_channel d e) (sym is) ∙ channel_itself d)
