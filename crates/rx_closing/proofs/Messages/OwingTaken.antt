-- What a datagram that a server takes leaves of the channel of a call that it knows: where the channel is still at
-- that call, it was so before, and it owes still what it owed.
use Rattle.std.proofs.Common.{◌≡◌, ◌⊎◌, ◌≤◌, ◌&&◌, ◌==◌, cond, nat_lt, ℕ, not, Bool, true, false, List, Option, Some}
use Rattle.std.proofs.Common.{None, Ok, Err, Result, refl, ◌∙◌, ap, sym, subst, inl, inr, is_some}
use Rattle.rx_model.specs.declared.answers.BadMsg.{BadMsg}
use Rattle.rx_model.specs.declared.answers.Took.{Took}
use Rattle.rx_model.specs.declared.answers.Took.TheVariants as tooks
use Rattle.rx_model.specs.declared.event.Event.TheVariants as events
use Rattle.rx_model.specs.declared.names.CallName.{CallName}
use Rattle.rx_model.specs.declared.names.Host.{Host}
use Rattle.rx_model.specs.declared.wire.TheConstants.{RX_CALL_DEAD, RX_PROTOCOL_ERROR}
use Rattle.rx_model.specs.Body.{Body}
use Rattle.rx_model.specs.Body as bodies
use Rattle.rx_model.specs.Message.{Message}
use Rattle.rx_model.specs.Names.{channel_of, connection_of}
use Rattle.rx_model.specs.Reading.{reading_of}
use Rattle.rx_rules.specs.After.{after, challenged, owing_abort, owing_again, owing_busy, prepared, settled}
use Rattle.rx_rules.specs.After.{stopped_all, taken_at, taken_behind, taken_data, taken_heard, taken_message}
use Rattle.rx_rules.specs.After.{taken_over, taken_stopped, taken_unserved, taken_with, turned_away, with_first}
use Rattle.rx_rules.specs.Judging.{opened, outer_row}
use Rattle.rx_rules.specs.Life.{after_code}
use Rattle.rx_rules.specs.Looks.{CallRecord, ChannelLooks, ConnLooks, Looks, call_at, channel_at, is_proved}
use Rattle.rx_rules.specs.Looks.{latest_name, on_call, on_channel, on_life}
use Rattle.rx_rules.specs.Setup.{Setup, is_client, named}
use Rattle.rx_history.specs.Starts.{StartsBy, StartsNew}
use Rattle.rx_between.proofs.Each.EachStep.{is_start}
use Rattle.rx_closing.proofs.Messages.OwingStays.{HoldsOwed, StaysOwed, again_stays, holds_channel}
use Rattle.rx_closing.proofs.Messages.OwingStays.{holds_opened, holds_prepared, holds_same, holds_then, holds_told}
use Rattle.rx_closing.proofs.Telling.AbortOwed.{conn_channel}
use Rattle.rx_history.proofs.Laws.TakenLaws.{again-number}

module _ (P : ChannelLooks → Type 0) (stays : StaysOwed P) (c : CallName) (some : 1 ≤ c.number) where
  -- ---- a message is taken

  holds_challenged : (s : Setup) (d : CallName) (l : Looks) → HoldsOwed P c l (challenged s d l)
  holds_challenged s d l =
      by (not (is_client s.kind) && (s.class.challenges && not (is_proved l (connection_of d))))
    where
      by : (b : Bool)
          → HoldsOwed P c l (cond b (on_channel (channel_of d) (λ q. record q { owed_challenge = true }) l) l)
      by true =
          holds_channel P c some (channel_of d) (λ q. record q { owed_challenge = true }) l (λ q. refl) stays.challenge
      by false = holds_same P c l l refl

  holds_data : (s : Setup) (got : Took) (d : CallName) (m : Message) (l : Looks)
      → HoldsOwed P c l (taken_data s got d m l)
  holds_data s got d m l =
      holds_then P c l with_ (taken_data s got d m l) (holds_same P c l with_ refl) (holds_challenged s d with_)
    where
      with_ : Looks
      with_ = record (taken_at s got d m l) { firsts = with_first got d m.seq l.firsts }

  holds_heard : (s : Setup) (d : CallName) (m : Message) (body : Body) (l : Looks)
      → HoldsOwed P c l (taken_heard s d body l)
  holds_heard s d m (bodies.Ack a) l =
      holds_then P c l (on_call d settled l) (challenged s d (on_call d settled l))
      (holds_same P c l (on_call d settled l) refl) (holds_challenged s d (on_call d settled l))
  holds_heard s d m bodies.AckAll l = holds_same P c l (on_call d settled l) refl
  holds_heard s d m (bodies.Response bytes) l =
      holds_same P c l (taken_heard s d (bodies.Response bytes) l)
      (conn_channel (connection_of d) (λ (r : ConnLooks). record r { proved = true }) l (channel_of c) (λ r. refl)
      (λ r. refl))
  holds_heard s d m (bodies.Challenge bytes) l =
      holds_channel P c some (channel_of d) (λ q. record q { owed_response = s.class.respond d bytes }) l (λ q. refl)
      (stays.response (s.class.respond d bytes))
  holds_heard s d m _ l = holds_same P c l l refl

  holds_stopped : (d : CallName) (body : Body) (l : Looks) → HoldsOwed P c l (taken_stopped d body l)
  holds_stopped d (bodies.Abort code) l = by (d.number == 0)
    where
      by : (b : Bool)
          → HoldsOwed P c l (cond b (stopped_all (connection_of d) code l) (on_life d (after_code code) l))
      by true = holds_same P c l (stopped_all (connection_of d) code l) refl
      by false = holds_same P c l (on_life d (after_code code) l) refl
  holds_stopped d (bodies.Response bytes) l =
      holds_then P c l (on_life d (after_code RX_PROTOCOL_ERROR) l) (taken_stopped d (bodies.Response bytes) l)
      (holds_same P c l (on_life d (after_code RX_PROTOCOL_ERROR) l) refl)
      (holds_channel P c some (channel_of d) (owing_abort (Some RX_PROTOCOL_ERROR))
      (on_life d (after_code RX_PROTOCOL_ERROR) l) (λ q. refl) (stays.abort (Some RX_PROTOCOL_ERROR)))
  holds_stopped d _ l = holds_same P c l l refl

  holds_over : (d : CallName) (body : Body) (o : Option CallRecord) (l : Looks)
      → HoldsOwed P c l (taken_over d body o l)
  holds_over d body None l = holds_same P c l l refl
  holds_over d body (Some k) l =
      holds_channel P c some (channel_of d) (owing_again body k.life) l (again-number body k.life)
      (again_stays P stays body k.life)

  holds_with : (s : Setup) (got : Took) (d : CallName) (m : Message) (l : Looks)
      → (is_start got ≡ true → d ≡ c → nat_lt (channel_at l (channel_of d)).number d.number ≡ true → ⊥)
      → (channel_of d ≡ channel_of c → (got ≡ tooks.Busy) ⊎ (got ≡ tooks.NoRoom) → (q : ChannelLooks) → P q
      → P (owing_busy d.number q))
      → HoldsOwed P c l (taken_with s got d m l)
  holds_with s tooks.Kept d m l none busy =
      holds_then P c l (opened s d l) (taken_with s tooks.Kept d m l) (holds_opened P c some s d l (none refl))
      (holds_data s tooks.Kept d m (opened s d l))
  holds_with s tooks.NoSlot d m l none busy =
      holds_then P c l (opened s d l) (taken_with s tooks.NoSlot d m l) (holds_opened P c some s d l (none refl))
      (holds_data s tooks.NoSlot d m (opened s d l))
  holds_with s tooks.Repeat d m l none busy = holds_data s tooks.Repeat d m l
  holds_with s tooks.Beyond d m l none busy = holds_data s tooks.Beyond d m l
  holds_with s tooks.Clash d m l none busy = holds_data s tooks.Clash d m l
  holds_with s tooks.Heard d m l none busy =
      holds_then P c l (taken_at s tooks.Heard d m l) (taken_with s tooks.Heard d m l)
      (holds_same P c l (taken_at s tooks.Heard d m l) refl)
      (holds_heard s d m m.body (taken_at s tooks.Heard d m l))
  holds_with s tooks.Stopped d m l none busy = holds_stopped d m.body l
  holds_with s tooks.Busy d m l none busy =
      holds_then P c l (on_life (latest_name l (channel_of d)) (after_code RX_CALL_DEAD) l)
      (taken_with s tooks.Busy d m l)
      (holds_same P c l (on_life (latest_name l (channel_of d)) (after_code RX_CALL_DEAD) l) refl)
      (holds_told P c some (channel_of d) (owing_busy d.number)
      (on_life (latest_name l (channel_of d)) (after_code RX_CALL_DEAD) l) (λ q. refl) (λ on. busy on (inl refl)))
  holds_with s tooks.NoRoom d m l none busy =
      holds_told P c some (channel_of d) (owing_busy d.number) l (λ q. refl) (λ on. busy on (inr refl))
  holds_with s tooks.Over d m l none busy = holds_over d m.body (call_at l d) l
  holds_with s _ d m l none busy = holds_same P c l l refl

  holds_turned : (row : Took) (from : Host) (m : Message) (l : Looks) → HoldsOwed P c l (turned_away row from m l)
  holds_turned tooks.Unserved from m l = of m.body
    where
      of : (body : Body) → HoldsOwed P c l (taken_unserved from m body l)
      of (bodies.Chunk payload) = holds_same P c l (taken_unserved from m (bodies.Chunk payload) l) refl
      of _ = holds_same P c l l refl
  holds_turned row from m l = holds_same P c l l refl

  -- a datagram of which nothing starts this call
  pub holds_taken : (s : Setup) (l : Looks) (from : Host) (bytes : List ℕ) (got : Took)
      → is_some (call_at l c) ≡ true → StartsNew s l (events.Taken from bytes got) c
      → ((m : Message) → reading_of bytes ≡ Ok m → outer_row s s.kind l from m ≡ None
      → channel_of (named s from m) ≡ channel_of c → (got ≡ tooks.Busy) ⊎ (got ≡ tooks.NoRoom)
      → (q : ChannelLooks) → P q
      → P (owing_busy (named s from m).number q))
      → HoldsOwed P c l (after s (events.Taken from bytes got) l)
  holds_taken s l from bytes got known once busy = by (reading_of bytes) refl
    where
      starts : (got : Took) → is_start got ≡ true → StartsNew s l (events.Taken from bytes got) c
          → StartsBy s l from bytes c got
      starts tooks.Kept is once = once
      starts tooks.NoSlot is once = once
      starts _ is once = absurd cc

      by : (r : Result Message BadMsg) → reading_of bytes ≡ r → HoldsOwed P c l (taken_message s from r got l)
      by (Err bad) reads = holds_same P c l l refl
      by (Ok m) reads = of (outer_row s s.kind l from m) refl
        where
          d : CallName
          d = named s from m

          ready : Looks
          ready = prepared s got (connection_of d) l

          none : outer_row s s.kind l from m ≡ None → is_start got ≡ true → d ≡ c
              → nat_lt (channel_at ready (channel_of d)).number d.number ≡ true → ⊥
          none front is own above =
              (let new : call_at l c ≡ None = starts got is once m reads front own
              (subst (λ (e : CallName). nat_lt (channel_at (prepared s got (connection_of e) l) (channel_of e)).number
              e.number ≡ true) own above) in
              let no : false ≡ true = ap (λ (o : Option CallRecord). is_some o) (sym new) ∙ known in
              cc (no))

          of : (row : Option Took) → outer_row s s.kind l from m ≡ row
              → HoldsOwed P c l (taken_behind s row from d m got l)
          of (Some row) is = holds_turned row from m l
          of None is =
              holds_then P c l ready (taken_with s got d m ready) (holds_prepared P c some s got (connection_of d) l)
              (holds_with s got d m ready (none is) (busy m reads is))
