-- A node that was polled out owes nothing beside what its calls give, where it challenges none.
use Rattle.std.proofs.Common.{◌≡◌, ◌<◌, ◌&&◌, nat_le, ℕ, ℤ, zero, suc, cond, Bool, true, false, List, [], ◌∷◌, Option}
use Rattle.std.proofs.Common.{Some, None, Result, Ok, Err, refl, inl, inr, ap, sym, subst, ◌∙◌, arith, length}
use Rattle.std.proofs.Common.{option_map, filter}
use Rattle.std.specs.Prelude.{option_and_then, slice_get, unwrap_or}
use Rattle.std.specs.List.{find}
use Rattle.std.proofs.lemmas.Bool.{le-leb}
use Rattle.std.proofs.lemmas.Option.{slice_get_within}
use Rattle.rx_model.specs.declared.answers.BadMsg.{BadMsg}
use Rattle.rx_model.specs.declared.answers.Took.{Took}
use Rattle.rx_model.specs.declared.answers.Took.TheVariants as tooks
use Rattle.rx_model.specs.declared.event.Event.{Event}
use Rattle.rx_model.specs.declared.event.Event.TheVariants as events
use Rattle.rx_model.specs.declared.names.CallName.{CallName}
use Rattle.rx_model.specs.declared.names.Host.{Host}
use Rattle.rx_model.specs.declared.wire.TheConstants.{RX_PROTOCOL_ERROR}
use Rattle.rx_model.specs.Body.{Body}
use Rattle.rx_model.specs.Body as bodies
use Rattle.rx_model.specs.Message.{Message}
use Rattle.rx_model.specs.Names.{Channel, Connection, channels_of, connection_of, same_connection}
use Rattle.rx_model.specs.Reading.{reading_of}
use Rattle.rx_model.proofs.NameLaws.{connection_is, connection_itself}
use Rattle.rx_rules.specs.After.{is_end, is_ok_end, looks, owing_abort, owing_ackall, owing_again, owing_busy, prepared}
use Rattle.rx_rules.specs.After.{served_code, told_code}
use Rattle.rx_rules.specs.Items.{Item, all_channels, busy_items, channel_items, class_items, items, items_of, next_item}
use Rattle.rx_rules.specs.Items.{owed_item, where_owed}
use Rattle.rx_rules.specs.Life.{Life, is_calling, is_live}
use Rattle.rx_rules.specs.Looks.{ChannelLooks, ConnLooks, Looks, call_at, call_named, channel_at, fresh_channel}
use Rattle.rx_rules.specs.Looks.{is_call, latest}
use Rattle.rx_rules.specs.Rules.{Legal}
use Rattle.rx_rules.specs.Setup.{Setup, named}
use Rattle.rx_rules.proofs.EveryLaws.{Every}
use Rattle.rx_history.proofs.Differ.{Differ, by_connection}
use Rattle.rx_history.proofs.Order.Orderly.{HasFour, OrderlyConns}
use Rattle.rx_history.proofs.Order.OrderlyHistory.{orderly_history}
use Rattle.rx_between.proofs.Each.EachItem.{In, in_behind, in_filter, in_front, in_items, is_due, least_none}
use Rattle.rx_rounds.proofs.Polls.PolledOut.{IsPolledOut}
use Rattle.rx_closing.proofs.Owing.ChannelsStay.{GoesSo, Hold, IsMute, Lasts, Leaves, ReadsSo, StopsSo, TakesSo}
use Rattle.rx_closing.proofs.Owing.ChannelsStay.{hold_after}
use Rattle.rx_closing.proofs.Owing.OwesNone.{IsQuiet, OwesNone}
use Rattle.rx_closing.proofs.Rounds.RoundEvents.{every_at as in_every, nth_every}
use Rattle.rx_closing.proofs.Telling.AbortOwed.{in_four}
use Rattle.rx_closing.proofs.Living.InLists.{in_every as every_in}

-- ---- no CHALLENGE and no RESPONSE is ever owed

pub record IsUnasked (q : ChannelLooks) : Type 0 where
  pub challenge : q.owed_challenge ≡ false
  pub response : q.owed_response ≡ None

pub unasked_lasts : Lasts IsUnasked
unasked_lasts =
    record {
      fresh = λ n. record { challenge = refl; response = refl };
      no_abort = λ q here. record { challenge = here.challenge; response = here.response };
      no_busy = λ q here. record { challenge = here.challenge; response = here.response };
      no_ackall = λ q here. record { challenge = here.challenge; response = here.response };
      no_challenge = λ q here. record { challenge = refl; response = here.response };
      no_response = λ q here. record { challenge = here.challenge; response = refl };
    }

abort_unasked : (o : Option ℤ) → Leaves IsUnasked unasked_lasts (owing_abort o)
abort_unasked None q here = here
abort_unasked (Some code) q here = record { challenge = here.challenge; response = here.response }

ackall_unasked : (b : Bool) → Leaves IsUnasked unasked_lasts (owing_ackall b)
ackall_unasked true q here = record { challenge = here.challenge; response = here.response }
ackall_unasked false q here = here

busy_unasked : (n : ℕ) → Leaves IsUnasked unasked_lasts (owing_busy n)
busy_unasked n q here = record { challenge = here.challenge; response = here.response }

again_unasked : (body : Body) (life : Life) → Leaves IsUnasked unasked_lasts (owing_again body life)
again_unasked (bodies.Chunk payload) life q here =
    ackall_unasked (is_ok_end life) (owing_abort (told_code life) q) (abort_unasked (told_code life) q here)
again_unasked (bodies.Ack a) life q here = abort_unasked (served_code life) q here
again_unasked _ life q here = here

module _ (s : Setup) (mute : IsMute s.class) where
  stops_unasked : (body : Body) → StopsSo IsUnasked unasked_lasts s mute body
  stops_unasked (bodies.Response bytes) = abort_unasked (Some RX_PROTOCOL_ERROR)
  stops_unasked _ = tt

  takes_unasked : (got : Took) (d : CallName) (body : Body) (l : Looks)
      → TakesSo IsUnasked unasked_lasts s mute got d body l
  takes_unasked tooks.Busy d body l = busy_unasked d.number
  takes_unasked tooks.NoRoom d body l = busy_unasked d.number
  takes_unasked tooks.Over d body l = λ k there. again_unasked body k.life
  takes_unasked tooks.Stopped d body l = stops_unasked body
  takes_unasked _ d body l = tt

  reads_unasked : (from : Host) (reading : Result Message BadMsg) (got : Took) (l : Looks)
      → ReadsSo IsUnasked unasked_lasts s mute l from reading got
  reads_unasked from (Err bad) got l = tt
  reads_unasked from (Ok m) got l = λ front.
      takes_unasked got (named s from m) m.body (prepared s got (connection_of (named s from m)) l)

  goes_unasked : (l : Looks) (e : Event) → GoesSo IsUnasked unasked_lasts s mute l e
  goes_unasked l (events.Taken from bytes got) = reads_unasked from (reading_of bytes) got l
  goes_unasked l (events.HasRead c max got bytes) =
      ackall_unasked (is_end got && is_call (λ k. is_calling k.life) (call_at l c))
  goes_unasked l (events.Finished c code (Ok done)) = λ some. abort_unasked (Some code)
  goes_unasked l (events.Finished c code (Err refused)) = tt
  goes_unasked l (events.Cancelled c code (Ok done)) = abort_unasked (Some code)
  goes_unasked l (events.Cancelled c code (Err closed)) = tt
  goes_unasked l _ = tt

  -- at any moment
  pub never_asked : (h : List Event) → Hold IsUnasked unasked_lasts (looks s h).conns
  never_asked [] = tt
  never_asked (e ∷ h) =
      hold_after IsUnasked unasked_lasts s mute (looks s h) e (goes_unasked (looks s h) e) (never_asked h)

-- ---- lists

-- what holds of each element at its place holds of all
pub every_nth : {X : Type 0} (P : X → Type 0) (xs : List X) → ((n : ℕ) (x : X) → slice_get xs n ≡ Some x → P x)
    → Every P xs
every_nth P [] each = tt
every_nth P (x ∷ xs) each = (each zero x refl, every_nth P xs (λ n y there. each (suc n) y there))

-- a record is found by its name
pub conn_found : (rs : List ConnLooks) (r : ConnLooks) → Differ by_connection rs → In r rs
    → find (λ q. same_connection q.connection r.connection) rs ≡ Some r
conn_found [] r differ there = absurd there
conn_found (q ∷ rs) r differ (inl same) =
    ap (λ (b : Bool). cond b (Some q) (find (λ p. same_connection p.connection r.connection) rs))
    (subst (λ (x : Connection). same_connection q.connection x ≡ true)
    (ap (λ (p : ConnLooks). p.connection) (sym same)) (connection_itself q.connection))
    ∙ ap (λ (p : ConnLooks). Some p) (sym same)
conn_found (q ∷ rs) r differ (inr rest) =
    by (same_connection q.connection r.connection) refl (conn_found rs r differ.1 rest)
  where
    by : (b : Bool) → same_connection q.connection r.connection ≡ b
        → find (λ p. same_connection p.connection r.connection) rs ≡ Some r
        → cond b (Some q) (find (λ p. same_connection p.connection r.connection) rs) ≡ Some r
    by true same later =
        (let apart : same_connection r.connection q.connection ≡ false =
        in_every (λ (y : ConnLooks). by_connection y q ≡ false) rs r rest differ.0 in
        let one : same_connection r.connection q.connection ≡ true =
        subst (λ (x : Connection). same_connection r.connection x ≡ true)
        (sym (connection_is q.connection r.connection same)) (connection_itself r.connection) in
        absurd (let no : false ≡ true = sym apart ∙ one in cc))
    by false other later = later

in_all : (rs : List ConnLooks) (r : ConnLooks) (ch : Channel) → In r rs → In ch (channels_of r.connection)
    → In ch (all_channels rs)
in_all [] r ch there inside = absurd there
in_all (q ∷ rs) r ch (inl same) inside =
    in_front ch (channels_of q.connection) (all_channels rs)
    (subst (λ (p : ConnLooks). In ch (channels_of p.connection)) same inside)
in_all (q ∷ rs) r ch (inr rest) inside =
    in_behind ch (channels_of q.connection) (all_channels rs) (in_all rs r ch rest inside)

-- ---- one channel

module _ (s : Setup) (l : Looks) (out : next_item s l ≡ None) where
  -- nothing is due at once
  none_due : (ch : Channel) (i : Item) → In ch (all_channels l.conns) → In i (channel_items s l ch) → i.rank ≡ 0 → ⊥
  none_due ch i known there at_once =
      (let due : is_due l i ≡ true =
      ap (λ (n : ℕ). nat_le n l.now) at_once ∙ le-leb 0 l.now (omega arith) in
      let left : In i (filter (is_due l) (items s l)) =
      in_filter (is_due l) i (items s l) (in_items s l i ch (all_channels l.conns) known there) due in
      subst (λ (is : List Item). In i is)
      (least_none (λ (j : Item). j.rank) (filter (is_due l) (items s l)) out) left)

  module _ (ch : Channel) (known : In ch (all_channels l.conns)) where
    abbrev q : ChannelLooks
    q = channel_at l ch

    abbrev c : CallName
    c = call_named ch q.number

    abbrev owes : CallName → Body → Item
    owes d body = record { rank = 0; name = d; seq = 0; flags = 0; body = body }

    no_abort : (o : Option ℤ) → q.owed_abort ≡ o → o ≡ None
    no_abort None is = refl
    no_abort (Some code) is =
        absurd (none_due ch (owes c (bodies.Abort code)) known
        (in_front (owes c (bodies.Abort code)) (owed_item c (option_map bodies.Abort q.owed_abort)) _
        (subst (λ (o : Option ℤ). In (owes c (bodies.Abort code)) (owed_item c (option_map bodies.Abort o))) (sym is)
        (inl refl))) refl)

    no_busy : (o : Option ℕ) → q.owed_busy ≡ o → o ≡ None
    no_busy None is = refl
    no_busy (Some n) is =
        absurd (none_due ch (owes (call_named ch n) bodies.Busy) known
        (in_behind (owes (call_named ch n) bodies.Busy) (owed_item c (option_map bodies.Abort q.owed_abort)) _
        (in_front (owes (call_named ch n) bodies.Busy) (busy_items ch q.owed_busy) _
        (subst (λ (o : Option ℕ). In (owes (call_named ch n) bodies.Busy) (busy_items ch o)) (sym is)
        (inl refl)))) refl)

    no_ackall : (b : Bool) → q.owed_ackall ≡ b → b ≡ false
    no_ackall false is = refl
    no_ackall true is =
        absurd (none_due ch (owes c bodies.AckAll) known
        (in_behind (owes c bodies.AckAll) (owed_item c (option_map bodies.Abort q.owed_abort)) _
        (in_behind (owes c bodies.AckAll) (busy_items ch q.owed_busy) _
        (in_behind (owes c bodies.AckAll) (class_items s l c q (is_call (λ k. is_live k.life) (latest l ch))) _
        (in_front (owes c bodies.AckAll) (owed_item c (where_owed q.owed_ackall bodies.AckAll))
        (items_of s l (latest l ch))
        (subst (λ (b : Bool). In (owes c bodies.AckAll) (owed_item c (where_owed b bodies.AckAll))) (sym is)
        (inl refl)))))) refl)

    quiet_at : IsUnasked q → IsQuiet q
    quiet_at un =
        record {
          abort = no_abort q.owed_abort refl;
          busy = no_busy q.owed_busy refl;
          ackall = no_ackall q.owed_ackall refl;
          challenge = un.challenge;
          response = un.response;
        }

-- ---- all channels

pub out_owes_none : (s : Setup) (h : List Event) → IsMute s.class → Legal s h → IsPolledOut s (looks s h)
    → OwesNone (looks s h)
out_owes_none s h mute legal out =
    record {
      strays = out.strays;
      channels = every_in (λ (r : ConnLooks). Every IsQuiet r.channels) l.conns each_conn;
    }
  where
    l : Looks
    l = looks s h

    o : OrderlyConns s l.conns
    o = (orderly_history s h legal).conns

    each_conn : (r : ConnLooks) → In r l.conns → Every IsQuiet r.channels
    each_conn r there = every_nth IsQuiet r.channels each_one
      where
        four : length r.channels ≡ 4
        four = in_every HasFour l.conns r there o.fours

        each_one : (n : ℕ) (q : ChannelLooks) → slice_get r.channels n ≡ Some q → IsQuiet q
        each_one n q is =
            (let low : n < length r.channels = slice_get_within r.channels n q is in
            let many = four in
            let small : n < 4 = omega arith in
            let ch : Channel = record { connection = r.connection; chan = n } in
            let here : channel_at l ch ≡ q =
            ap (λ (x : Option ConnLooks). unwrap_or (option_and_then (λ (p : ConnLooks). slice_get p.channels n) x)
            (fresh_channel 0)) (conn_found l.conns r o.differ there)
            ∙ ap (λ (x : Option ChannelLooks). unwrap_or x (fresh_channel 0)) is in
            let un : IsUnasked q =
            nth_every IsUnasked r.channels n q is
            (in_every (λ (p : ConnLooks). Every IsUnasked p.channels) l.conns r there (never_asked s mute h)) in
            subst IsQuiet here
            (quiet_at s l out.items ch (in_all l.conns r ch there (in_four r.connection n small))
            (subst IsUnasked (sym here) un)))
