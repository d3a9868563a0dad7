-- A channel of a client that owes an ACKALL has a latest call whose reply was read to its end.
use Rattle.std.proofs.Common.{◌≡◌, ◌⊎◌, ◌&&◌, ◌==◌, ◌++◌, ℕ, zero, suc, cond, if◌then◌else◌, nat_lt, Bool, true, false}
use Rattle.std.proofs.Common.{List}
use Rattle.std.proofs.Common.{[], ◌∷◌, Option, Some, None, option_map, Result, Ok, Err, refl, ◌∙◌, ap, sym, subst, inl}
use Rattle.std.proofs.Common.{inr}
use Rattle.std.proofs.Common.{⊎_elim, arith, is_some}
use Rattle.std.specs.List.{find}
use Rattle.std.proofs.lemmas.Bool.Decides.{nat_tests}
use Rattle.rx_model.specs.declared.answers.BadMsg.{BadMsg}
use Rattle.rx_model.specs.declared.answers.ReadAns.{ReadAns}
use Rattle.rx_model.specs.declared.answers.ReadAns.TheVariants as answers
use Rattle.rx_model.specs.declared.answers.ReadGot.TheVariants as readers
use Rattle.rx_model.specs.declared.answers.Took.{Took}
use Rattle.rx_model.specs.declared.answers.Took.TheVariants as tooks
use Rattle.rx_model.specs.declared.event.Event.{Event}
use Rattle.rx_model.specs.declared.event.Event.TheVariants as events
use Rattle.rx_model.specs.declared.names.CallName.{CallName}
use Rattle.rx_model.specs.declared.names.Host.{Host}
use Rattle.rx_model.specs.Body.{Body}
use Rattle.rx_model.specs.Body as bodies
use Rattle.rx_model.specs.Message.{Message}
use Rattle.rx_model.specs.Names.{Connection, channel_of, connection_of, same_connection}
use Rattle.rx_model.specs.Reading.{reading_of}
use Rattle.rx_model.proofs.NameLaws.{connection_is, name_itself, same_number, both}
use Rattle.rx_rules.specs.After.{after, acknowledged, enters, is_end, is_ok_end}
use Rattle.rx_rules.specs.After.{linked, looks, owing_abort, owing_ackall, owing_again, prepared, read_done}
use Rattle.rx_rules.specs.After.{served_code}
use Rattle.rx_rules.specs.After.{taken_behind, taken_message, taken_over, taken_with, told_code}
use Rattle.rx_rules.specs.CallLooks.{after_read, after_shut, after_write}
use Rattle.rx_rules.specs.Judging.{Facts, client_row, facts_of, opened, outer_row, own_row, side_row}
use Rattle.rx_rules.specs.Life.{Life, after_cancel, after_end, is_calling}
use Rattle.rx_rules.specs.Life as lives
use Rattle.rx_rules.specs.Looks.{CallRecord, ChannelLooks, ConnLooks, Looks, call_at, call_named, changed_at}
use Rattle.rx_rules.specs.Looks.{channel_at}
use Rattle.rx_rules.specs.Looks.{conn_at, is_call, on_channel, on_life, on_looks}
use Rattle.rx_rules.specs.Records.{entered, fresh_conn, used, with_conn}
use Rattle.rx_rules.specs.Rules.{AllowedClient, Legal, client_read, own_call}
use Rattle.rx_rules.specs.Setup.{Setup, Kind, Client, FitsSetup, Server, named}
use Rattle.rx_rules.proofs.ConnsLaws.{channel_number, conn_at-on_conn, conn_if, number_in, number_of}
use Rattle.rx_rules.proofs.FindLaws.{find_passes}
use Rattle.rx_history.proofs.Calls.{call-changed}
use Rattle.rx_history.proofs.ClientHistory.{client-calls, clients}
use Rattle.rx_history.proofs.Events.{call-by, calls-prepared}
use Rattle.rx_history.proofs.Openings.{channel_prepared}
use Rattle.rx_history.proofs.Turns.{Fine}
use Rattle.rx_between.specs.Acknowledged.{received_by}
use Rattle.rx_between.proofs.Histories.{client_onward, grown_step}
use Rattle.rx_between.proofs.Onward.{row_named}
use Rattle.rx_between.proofs.Owing.{Calm, Clears, calm_abort, calm_channel, calm_same}
use Rattle.rx_between.proofs.Owing.{calm_polled, calm_started, calm_trans, calm_turned, calm_used, calm_with, owes_in}
use Rattle.rx_between.proofs.Owing.{owes_of}
use Rattle.rx_history.proofs.Dimensions.Dims.{number-kept}
use Rattle.rx_history.proofs.Given.GivenLaws.{ackall-number}
use Rattle.rx_history.proofs.Laws.TakenLaws.{again-number}

-- the latest call of a channel, by its connection's record
abbrev pub latest_of : Looks → Connection → ℕ → CallName
latest_of l y n = call_named (record { connection = y; chan = n }) (number_of (conn_at l y) n)

-- what was received of it was read to its end
abbrev pub HasEnded : Looks → CallName → Type 0
HasEnded l c = (received_by (call_at l c)).ended ≡ true

-- the channel owed one before, of the same call
abbrev Past : Looks → Looks → Connection → ℕ → Type 0
Past l m y n = (owes_of (conn_at l y) n ≡ true) × (number_of (conn_at m y) n ≡ number_of (conn_at l y) n)

-- or its latest call's reply was read
abbrev OwesBy : Looks → Looks → Connection → Type 0
OwesBy l m y = (n : ℕ) → owes_of (conn_at m y) n ≡ true → Past l m y n ⊎ HasEnded m (latest_of m y n)

calm-owes : (l m : Looks) (y : Connection) → Calm y l m → OwesBy l m y
calm-owes l m y calm n is = inl (calm.here n is)

behind-calm : (l k m : Looks) (y : Connection) → Calm y l k → OwesBy k m y → OwesBy l m y
behind-calm l k m y calm owes n is =
    ⊎_elim (λ (p : Past k m y n). (let c = calm.here n p.0 in inl (c.0, p.1 ∙ c.1)))
    (λ (e : HasEnded m (latest_of m y n)). inr e) (owes n is)

-- ---- a channel comes to owe one

owes-changed : (qs : List ChannelLooks) (m n : ℕ) (f : ChannelLooks → ChannelLooks)
    → owes_in (changed_at m f qs) n ≡ true → (owes_in qs n ≡ true) ⊎ (n ≡ m)
owes-changed [] m n f is = inl is
owes-changed (q ∷ qs) zero zero f is = inr refl
owes-changed (q ∷ qs) zero (suc n) f is = inl is
owes-changed (q ∷ qs) (suc m) zero f is = inl is
owes-changed (q ∷ qs) (suc m) (suc n) f is =
    ⊎_elim (λ (old : owes_in qs n ≡ true). inl old) (λ (same : n ≡ m). inr (ap suc same))
    (owes-changed qs m n f is)

-- where the call is its channel's latest
module _ (d : CallName) (f : ChannelLooks → ChannelLooks) (l : Looks)
    (keeps : (q : ChannelLooks) → (f q).number ≡ q.number)
    (own : (channel_at l (channel_of d)).number ≡ d.number) where
  abbrev told : Looks
  told = on_channel (channel_of d) f l

  abbrev change : ConnLooks → ConnLooks
  change r = record r { channels = changed_at d.chan f r.channels }

  is-own : (y : Connection) (n : ℕ) → y ≡ connection_of d → n ≡ d.chan → number_of (conn_at told y) n
      ≡ number_of (conn_at l y) n → latest_of told y n ≡ d
  is-own y n at chan same =
      let here : number_of (conn_at l y) n ≡ d.number =
      (λ i. number_of (conn_at l (at i)) (chan i)) ∙ sym (channel_number l (channel_of d)) ∙ own in
      let number : number_of (conn_at told y) n ≡ d.number = same ∙ here in
      λ i. record {
        host = (at i).host;
        epoch = (at i).epoch;
        cid = (at i).cid;
        chan = chan i;
        number = number i;
      }

  owes-here : (y : Connection) (n : ℕ) → owes_of (conn_at told y) n ≡ true → Past l told y n ⊎ (latest_of told y n ≡ d)
  owes-here y n is = of (conn_at l y) refl (ap (λ (o : Option ConnLooks). owes_of o n) (sym at) ∙ is)
    where
      at : conn_at told y ≡ option_map (conn_if (connection_of d) change) (conn_at l y)
      at = conn_at-on_conn y (connection_of d) change l (λ r. refl)

      of : (o : Option ConnLooks) → conn_at l y ≡ o
          → owes_of (option_map (conn_if (connection_of d) change) o) n ≡ true
          → Past l told y n ⊎ (latest_of told y n ≡ d)
      of None there owes = absurd cc
      of (Some r) there owes =
          (elim (same_connection r.connection (connection_of d))
          as (λ b. same_connection r.connection (connection_of d) ≡ b
          → owes_in (cond b (change r) r).channels n ≡ true → Past l told y n ⊎ (latest_of told y n ≡ d)) [
            | true ↦ λ mine owed. (
                let name : r.connection ≡ y = connection_is r.connection y
                (find_passes (λ q. same_connection q.connection y) l.conns r there) in
                let home : y ≡ connection_of d = sym name ∙ connection_is r.connection (connection_of d) mine in
                let number : number_of (conn_at told y) n ≡ number_of (conn_at l y) n =
                ap (λ (o : Option ConnLooks). number_of o n)
                (at ∙ ap (option_map (conn_if (connection_of d) change)) there)
                ∙ ap (λ (b : Bool). number_in (cond b (change r) r).channels n) mine
                ∙ number-kept r.channels d.chan n f keeps
                ∙ sym (ap (λ (o : Option ConnLooks). number_of o n) there) in
                ⊎_elim
                (λ (old : owes_in r.channels n ≡ true).
                inl (ap (λ (o : Option ConnLooks). owes_of o n) there ∙ old, number))
                (λ (chan : n ≡ d.chan). inr (is-own y n home chan number))
                (owes-changed r.channels d.chan n f owed))
            | false ↦ λ other owed. (
                let number : number_of (conn_at told y) n ≡ number_of (conn_at l y) n =
                ap (λ (o : Option ConnLooks). number_of o n)
                (at ∙ ap (option_map (conn_if (connection_of d) change)) there)
                ∙ ap (λ (b : Bool). number_in (cond b (change r) r).channels n) other
                ∙ sym (ap (λ (o : Option ConnLooks). number_of o n) there) in
                inl (ap (λ (o : Option ConnLooks). owes_of o n) there ∙ owed, number))
          ]) refl owes

-- the same behind changes of calls alone
pub comes-to-owe : (d : CallName) (f : ChannelLooks → ChannelLooks) (l m : Looks) (y : Connection)
    → ((q : ChannelLooks) → (f q).number ≡ q.number) → (channel_at l (channel_of d)).number ≡ d.number
    → m.conns ≡ (on_channel (channel_of d) f l).conns → HasEnded m d → OwesBy l m y
comes-to-owe d f l m y keeps own conns ended n is =
    let told : Looks = on_channel (channel_of d) f l in
    let at : conn_at m y ≡ conn_at told y =
    ap (λ (rs : List ConnLooks). find (λ r. same_connection r.connection y) rs) conns in
    let name : latest_of m y n ≡ latest_of told y n =
    ap (λ (o : Option ConnLooks). call_named (record { connection = y; chan = n }) (number_of o n)) at in
    ⊎_elim
    (λ (p : Past l told y n). inl (p.0, ap (λ (o : Option ConnLooks). number_of o n) at ∙ p.1))
    (λ (same : latest_of told y n ≡ d). inr (subst (λ (c : CallName). HasEnded m c) (sym (name ∙ same)) ended))
    (owes-here d f l keeps own y n (ap (λ (o : Option ConnLooks). owes_of o n) (sym at) ∙ is))

-- ---- a read

some-call : (o : Option CallRecord) → is_call (λ k. is_calling k.life) o ≡ true → (k : CallRecord) × (o ≡ Some k)
some-call None is = absurd cc
some-call (Some k) is = (k, refl)

abort-number : (code : Option _) (q : ChannelLooks) → (owing_abort code q).number ≡ q.number
abort-number None q = refl
abort-number (Some code) q = refl

read-own : (l : Looks) (d : CallName) (max : ℕ) (got : ReadAns) (bytes : List ℕ)
    → ◌≡◌ {A = ReadAns × List ℕ} (got, bytes) (client_read (own_call l d) max)
    → is_end (readers.Client got) ≡ true → (channel_at l (channel_of d)).number ≡ d.number
read-own l d max got bytes is end =
    (elim ((channel_at l (channel_of d)).number == d.number)
    as (λ b. ((channel_at l (channel_of d)).number == d.number) ≡ b
    → ◌≡◌ {A = ReadAns × List ℕ} (got, bytes) (client_read (cond b (call_at l d) None) max)
    → (channel_at l (channel_of d)).number ≡ d.number) [
      | true ↦ λ same read. same_number (channel_at l (channel_of d)).number d.number same
      | false ↦ λ other read. absurd (
          let unknown : got ≡ answers.Unknown = ap (λ (p : ReadAns × List ℕ). p.0) read in
          let no' : is_end (readers.Client got) ≡ false = ap (λ (a : ReadAns). is_end (readers.Client a)) unknown in
          cc (end, no'))
    ]) refl is

-- the call behind it
read-at : (l : Looks) (d : CallName) (end : Bool) (bytes : List ℕ) (k : CallRecord) → call_at l d ≡ Some k
    → end ≡ true → HasEnded (read_done d end bytes l) d
read-at l d end bytes k there is =
    let reading : CallRecord → CallRecord = λ j. record j { looks = after_read l.now end bytes j.looks } in
    let ending : CallRecord → CallRecord = λ j. record j { life = after_end end j.life } in
    let first : Looks = acknowledged end d l in
    let second : Looks = on_looks d (after_read l.now end bytes) first in
    let own = name_itself d in
    let read : call_at second d ≡ Some (reading k) =
    call-changed d d reading first (λ j. refl)
    ∙ rw own (ap (option_map reading) there) in
    let all : call_at (read_done d end bytes l) d ≡ Some (ending (reading k)) =
    call-changed d d ending second (λ j. refl)
    ∙ rw own (ap (option_map ending) read) in
    subst (λ (o : Option CallRecord). (received_by o).ended ≡ true) (sym all) (rw is refl)

read-owes : (l : Looks) (d : CallName) (max : ℕ) (got : ReadAns) (bytes : List ℕ) (y : Connection)
    → ◌≡◌ {A = ReadAns × List ℕ} (got, bytes) (client_read (own_call l d) max)
    → OwesBy l (read_done d (is_end (readers.Client got)) bytes l) y
read-owes l d max got bytes y is = of (end && is_call (λ k. is_calling k.life) (call_at l d)) refl
  where
    end : Bool
    end = is_end (readers.Client got)

    done : Looks
    done = read_done d end bytes l

    quiet : (b : Bool) → b ≡ false → Clears (owing_ackall b)
    quiet true no' q owed = absurd cc
    quiet false no' q owed = (owed, refl)

    of : (b : Bool) → (end && is_call (λ k. is_calling k.life) (call_at l d)) ≡ b → OwesBy l done y
    of true owes =
        let parts = both end (is_call (λ k. is_calling k.life) (call_at l d)) owes in
        let k = some-call (call_at l d) parts.1 in
        comes-to-owe d (owing_ackall (end && is_call (λ k. is_calling k.life) (call_at l d))) l done y
        (ackall-number (end && is_call (λ k. is_calling k.life) (call_at l d)))
        (read-own l d max got bytes is parts.0) refl (read-at l d end bytes k.0 k.1 parts.0)
    of false rests =
        let c = calm_channel y (channel_of d) (owing_ackall (end && is_call (λ k. is_calling k.life) (call_at l d))) l
        (quiet (end && is_call (λ k. is_calling k.life) (call_at l d)) rests) in
        calm-owes l done y (record { here = c.here; none = c.none })

-- ---- a taking

-- a row in front of this one doesn't hold
past : (b : Bool) (row rest got : Took) → (row ≡ got → ⊥) → (if b then row else rest) ≡ got → (b ≡ false) × (rest ≡ got)
past true row rest got other is = absurd (other is)
past false row rest got other is = (refl, is)

over-stopped : tooks.Stopped ≡ tooks.Over → ⊥
over-stopped is = absurd cc

over-strange : tooks.Strange ≡ tooks.Over → ⊥
over-strange is = absurd cc

over-old : tooks.Old ≡ tooks.Over → ⊥
over-old is = absurd cc

neither-way : (a b : ℕ) → nat_lt a b ≡ false → nat_lt b a ≡ false → b ≡ a
neither-way a b low high = grind (arith, nat_tests)

over-latest : (f : Facts) (call : Took) → client_row f call ≡ tooks.Over → (f.is_below ≡ false) × (f.is_above ≡ false)
over-latest f call is =
    let a = past f.stops_all tooks.Stopped _ tooks.Over over-stopped is in
    let b = past _ tooks.Strange _ tooks.Over over-strange a.1 in
    let c = past f.is_below tooks.Old _ tooks.Over over-old b.1 in
    let d = past f.is_above tooks.Strange _ tooks.Over over-strange c.1 in
    (c.0, d.0)

side-latest : (kind : Kind) (host : Host) (epoch : ℕ) (f : Facts) (call : Took) → kind ≡ Client host epoch
    → side_row kind f call ≡ tooks.Over → (f.is_below ≡ false) × (f.is_above ≡ false)
side-latest kind host epoch f call is row =
    over-latest f call (ap (λ (k : Kind). side_row k f call) (sym is) ∙ row)

abort-owes : (code : Option _) (q : ChannelLooks) → (owing_abort code q).owed_ackall ≡ q.owed_ackall
abort-owes None q = refl
abort-owes (Some code) q = refl

-- a message of a call that didn't end with its reply read
pub again_clears : (body : Body) (life : Life) → is_ok_end life ≡ false → Clears (owing_again body life)
again_clears (bodies.Chunk payload) life bad q owed = (
  sym (abort-owes (told_code life) q)
      ∙ sym (ap (λ (b : Bool). (owing_ackall b (owing_abort (told_code life) q)).owed_ackall) bad) ∙ owed,
  again-number (bodies.Chunk payload) life q,
)
again_clears (bodies.Ack a) life bad q owed = (
  sym (abort-owes (served_code life) q) ∙ owed,
  again-number (bodies.Ack a) life q,
)
again_clears _ life bad q owed = (owed, refl)

over-owes : (d : CallName) (body : Body) (o : Option CallRecord) (l : Looks) (y : Connection) → call_at l d ≡ o → Fine o
    → (channel_at l (channel_of d)).number ≡ d.number → OwesBy l (taken_over d body o l) y
over-owes d body None l y there fine own = calm-owes l l y (calm_same y l l refl)
over-owes d body (Some k) l y there fine own = of (is_ok_end k.life) refl
  where
    told : Looks
    told = on_channel (channel_of d) (owing_again body k.life) l

    of : (b : Bool) → is_ok_end k.life ≡ b → OwesBy l told y
    of true good =
        comes-to-owe d (owing_again body k.life) l told y (again-number body k.life) own refl
        (subst (λ (o : Option CallRecord). (received_by o).ended ≡ true) (sym there) (fine good))
    of false bad =
        calm-owes l told y (calm_channel y (channel_of d) (owing_again body k.life) l (again_clears body k.life bad))

module _ (s : Setup) (host : Host) (epoch : ℕ) (kind : s.kind ≡ Client host epoch) (l : Looks) (y : Connection) where
  conns-entered : (x : Connection) → (entered s x l).conns ≡ l.conns
  conns-entered x = of (is_some (conn_at l x))
    where
      of : (b : Bool) → (cond b l (with_conn s s.kind x l)).conns ≡ l.conns
      of true = refl
      of false = ap (λ (k : Kind). (with_conn s k x l).conns) kind

  ready-calm : (got : Took) (x : Connection) → Calm y l (prepared s got x l)
  ready-calm got x = of (enters got)
    where
      of : (b : Bool) → Calm y l (used x (if b then entered s x l else l))
      of true =
          calm_trans y l (entered s x l) _ (calm_same y l (entered s x l) (conns-entered x))
          (calm_used y x (entered s x l))
      of false = calm_used y x l

  with-owes : (from : Host) (bytes : List ℕ) (got : Took) (m : Message)
      → ((d : CallName) → Fine (call_at l d))
      → side_row s.kind (facts_of s l (named s from m) m)
      (own_row s (opened s (named s from m) l) (named s from m) m) ≡ got
      → OwesBy l (taken_with s got (named s from m) m (prepared s got (connection_of (named s from m)) l)) y
  with-owes from bytes tooks.Over m fine row =
      let d : CallName = named s from m in
      let ready : Looks = prepared s tooks.Over (connection_of d) l in
      let calls : call_at ready d ≡ call_at l d = call-by d l ready (calls-prepared s tooks.Over (connection_of d) l) in
      let at = side-latest s.kind host epoch (facts_of s l d m) (own_row s (opened s d l) d m) kind row in
      let own : (channel_at l (channel_of d)).number ≡ d.number =
      neither-way d.number (channel_at l (channel_of d)).number at.0 at.1 in
      behind-calm l ready (taken_over d m.body (call_at ready d) ready) y (ready-calm tooks.Over (connection_of d))
      (over-owes d m.body (call_at ready d) ready y refl (subst Fine (sym calls) (fine d))
      (channel_prepared s tooks.Over d l ∙ own))
  with-owes from bytes got m fine row =
      let d : CallName = named s from m in
      let ready : Looks = prepared s got (connection_of d) l in
      calm-owes l (taken_with s got d m ready) y
      (calm_trans y l ready _ (ready-calm got (connection_of d))
      (calm_with s got y d m ready (λ same. absurd (cc (same)))))

  message-owes : (from : Host) (bytes : List ℕ) (got : Took) (reading : Result Message BadMsg)
      → reading_of bytes ≡ reading → ((d : CallName) → Fine (call_at l d))
      → AllowedClient s host epoch l (events.Taken from bytes got)
      → OwesBy l (taken_message s from reading got l) y
  message-owes from bytes got (Err bad) reads fine allowed = calm-owes l l y (calm_same y l l refl)
  message-owes from bytes got (Ok m) reads fine allowed = of (outer_row s s.kind l from m) refl
    where
      of : (row : Option Took) → outer_row s s.kind l from m ≡ row
          → OwesBy l (taken_behind s row from (named s from m) m got l) y
      of (Some row) front = calm-owes l _ y (calm_turned y row from m l)
      of None front = with-owes from bytes got m fine (row_named s l from bytes got m allowed.1 reads front)

  -- ---- a connection is made

  new-owes : (rs : List ConnLooks) (new : ConnLooks) (n : ℕ) → ((n : ℕ) → owes_in new.channels n ≡ false)
      → owes_of (find (λ r. same_connection r.connection y) (rs ++ new ∷ [])) n ≡ true
      → (owes_of (find (λ r. same_connection r.connection y) rs) n ≡ true)
      × (number_of (find (λ r. same_connection r.connection y) (rs ++ new ∷ [])) n
      ≡ number_of (find (λ r. same_connection r.connection y) rs) n)
  new-owes [] new n none is =
      absurd ((elim (same_connection new.connection y) as (λ b. owes_of (cond b (Some new) None) n ≡ true → ⊥) [
        | true ↦ λ owes. absurd (let no' = none n in cc (owes, no'))
        | false ↦ λ owes. absurd cc
      ]) is)
  new-owes (r ∷ rs) new n none is =
      (elim (same_connection r.connection y)
      as (λ b. owes_of (cond b (Some r) (find (λ r. same_connection r.connection y) (rs ++ new ∷ []))) n ≡ true
      → (owes_of (cond b (Some r) (find (λ r. same_connection r.connection y) rs)) n ≡ true)
      × (number_of (cond b (Some r) (find (λ r. same_connection r.connection y) (rs ++ new ∷ []))) n
      ≡ number_of (cond b (Some r) (find (λ r. same_connection r.connection y) rs)) n)) [
        | true ↦ λ owes. (owes, refl)
        | false ↦ λ owes. new-owes rs new n none owes
      ]) is

  fresh-none : (x : Connection) (to : Host) (service first : ℕ) (n : ℕ)
      → owes_in (fresh_conn x to service first l).channels n ≡ false
  fresh-none x to service first zero = refl
  fresh-none x to service first (suc zero) = refl
  fresh-none x to service first (suc (suc zero)) = refl
  fresh-none x to service first (suc (suc (suc zero))) = refl
  fresh-none x to service first (suc (suc (suc (suc n)))) = refl

  linked-owes : (k : Kind) (to : Host) (service first cid : ℕ) → OwesBy l (linked k to service first cid l) y
  linked-owes (Client a b) to service first cid n is =
      let x : Connection = record { host = a; epoch = b; cid = cid } in
      inl (new-owes l.conns (fresh_conn x to service first l) n (fresh-none x to service first) is)
  linked-owes (Server service nonces) to other first cid n is = calm-owes l l y (calm_same y l l refl) n is

  -- ---- each event

  event-owes : (e : Event) → AllowedClient s host epoch l e → ((d : CallName) → Fine (call_at l d))
      → OwesBy l (after s e l) y
  event-owes (events.Linked to service first (Ok cid)) allowed fine = linked-owes s.kind to service first cid
  event-owes (events.Called cid (Ok d)) allowed fine = calm-owes l _ y (calm_started s lives.Calling y d l)
  event-owes (events.Wrote d offered got bytes) allowed fine =
      let wrote : Looks = on_looks d (after_write bytes) l in
      calm-owes l wrote y (calm_same y l wrote refl)
  event-owes (events.Shut d (Ok done)) allowed fine =
      let shut : Looks = on_looks d after_shut l in
      calm-owes l shut y (calm_same y l shut refl)
  event-owes (events.HasRead d max (readers.Client got) bytes) allowed fine = read-owes l d max got bytes y allowed.1
  event-owes (events.HasRead d max (readers.Server got) bytes) allowed fine = absurd allowed
  event-owes (events.Cancelled d code (Ok done)) allowed fine =
      let ended : Looks = on_life d (after_cancel code) l in
      calm-owes l _ y (calm_trans y l ended _ (calm_same y l ended refl) (calm_abort y d code ended))
  event-owes (events.Taken from bytes got) allowed fine =
      message-owes from bytes got (reading_of bytes) refl fine allowed
  event-owes (events.Polled got) allowed fine = calm-owes l _ y (calm_polled s y got l)
  event-owes (events.Clocked now) allowed fine =
      let later : Looks = record l { now = now } in
      calm-owes l later y (calm_same y l later refl)
  event-owes (events.Accepted got) allowed fine = absurd allowed
  event-owes (events.Finished d code got) allowed fine = absurd allowed
  event-owes _ allowed fine = calm-owes l l y (calm_same y l l refl)

-- ---- a history

-- at every moment
pub owed_ended : (s : Setup) (host : Host) (epoch : ℕ) (h : List Event) (y : Connection) (n : ℕ)
    → s.kind ≡ Client host epoch → FitsSetup s → Legal s h → owes_of (conn_at (looks s h) y) n ≡ true
    → HasEnded (looks s h) (latest_of (looks s h) y n)
owed_ended s host epoch [] y n kind fits legal owes = absurd cc
owed_ended s host epoch (e ∷ h) y n kind fits legal owes =
    let l : Looks = looks s h in
    let m : Looks = looks s (e ∷ h) in
    let old = client-calls s host epoch h kind fits legal.1 in
    ⊎_elim
    (λ (p : Past l m y n). (
    let c : CallName = latest_of l y n in
    let before : HasEnded l c = owed_ended s host epoch h y n kind fits legal.1 p.0 in
    let name : latest_of m y n ≡ c =
    ap (λ (k : ℕ). call_named (record { connection = y; chan = n }) k) p.1 in
    subst (λ (d : CallName). HasEnded m d) (sym name)
    ((grown_step s e h c (client_onward s host epoch e h c kind fits legal)).ended before)))
    (λ (now : HasEnded m (latest_of m y n)). now)
    (event-owes s host epoch kind l y e (clients s.kind s host epoch l e kind legal.0) old.fine n owes)
