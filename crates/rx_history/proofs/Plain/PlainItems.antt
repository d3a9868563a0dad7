-- Each item that a node owes is plain: its numbers and its body fit. What its call is.
use Rattle.std.proofs.Common.{◌≡◌, ◌&&◌, ◌<◌, ◌+◌, ◌^◌, ℕ, not}
use Rattle.std.proofs.Common.{Bool, true, false, List, [], ◌∷◌, filter, nat_le}
use Rattle.std.proofs.Common.{Option, Some, None, option_map, refl, inl, inr, arith}
use Rattle.std.specs.Prelude.{IfSome}
use Rattle.rx_model.specs.declared.names.CallName.{CallName}
use Rattle.rx_model.specs.Body.{Body}
use Rattle.rx_model.specs.Body as bodies
use Rattle.rx_model.specs.Names.{Channel, connection_of, same_connection}
use Rattle.rx_rules.specs.Items.{Item, all_channels, busy_items, challenge_body, channel_items, class_items, items}
use Rattle.rx_rules.specs.Items.{items_of, items_on, next_item}
use Rattle.rx_rules.specs.Items.{owed_item, where_owed}
use Rattle.rx_rules.specs.Judging.{nonce_at}
use Rattle.rx_rules.specs.Life.{is_live}
use Rattle.rx_rules.specs.Looks.{ChannelLooks, Looks, call_named, channel_at, conn_at, is_call, is_proved}
use Rattle.rx_rules.specs.Looks.{latest}
use Rattle.rx_rules.specs.Setup.{Setup, Kind, Server, Client, FitsSetup, side_flag}
use Rattle.rx_rules.proofs.EveryLaws.{Every, every-append, every-filter}
use Rattle.rx_rules.proofs.LeastLaws.{least-keeps}
use Rattle.rx_history.proofs.Conns.{Conns, found-good}
use Rattle.rx_history.proofs.Data.{GoodCall}
use Rattle.rx_history.proofs.Differ.{every_found}
use Rattle.rx_history.proofs.Fit.FitChannels.{FitsChannel, FitsConn, fresh_channel_fits}
use Rattle.rx_history.proofs.Fit.FitHistory.{FitsLooks}
use Rattle.rx_history.proofs.Plain.PlainBodies.{abort_one, owed_apart, owed_plain, response_one}
use Rattle.rx_history.proofs.Plain.PlainBodies.{OwedAt, where_one}
use Rattle.rx_history.proofs.OwnChannels.{OwnChannel, channel_has, good_name, own_channels}
use Rattle.rx_history.proofs.Plain.PlainCalls.{PlainItem, call_one}

flags-none : (kind : Kind) → side_flag kind + 0 < 8
flags-none (Server service nonces) = omega arith
flags-none (Client host epoch) = omega arith

module _ (s : Setup) (l : Looks) (fits : FitsSetup s) (conns : Conns s l) (good : (c : CallName)
    → GoodCall s l c) (f : FitsLooks s l) where
  number-low : (ch : Channel) → (channel_at l ch).number < 2 ^ 32
  number-low ch =
      channel_has (λ q. q.number < 2 ^ 32) l ch (omega arith)
      (λ r there. (found-good s (λ q. same_connection q.connection ch.connection) l.conns r conns there).numbers)

  channel-fits : (ch : Channel) → FitsChannel (channel_at l ch)
  channel-fits ch =
      channel_has FitsChannel l ch (fresh_channel_fits 0)
      (λ r there. (every_found (FitsConn s)
      (λ q. same_connection q.connection ch.connection) l.conns r f.conns there).channels)

  owed-one : (ch : Channel) (o : Option Body) → OwnChannel s ch → IfSome o (OwedAt (channel_at l ch).number)
      → Every (PlainItem s l) (owed_item (call_named ch (channel_at l ch).number) o)
  owed-one ch None own is = tt
  owed-one ch (Some body) own is = (
    record {
      name = good_name s ch (channel_at l ch).number own (number-low ch);
      seq = omega arith;
      flags = flags-none s.kind;
      body = owed_plain body is.0;
      latest = inr refl;
      sent = λ sent. absurd (owed_apart body is.0 sent);
      apart = is.1;
    },
    tt,
  )

  busy-one : (ch : Channel) (o : Option ℕ) → OwnChannel s ch → IfSome o (λ n. n < 2 ^ 32)
      → Every (PlainItem s l) (busy_items ch o)
  busy-one ch None own is = tt
  busy-one ch (Some number) own is = (
    record {
      name = good_name s ch number own is;
      seq = omega arith;
      flags = flags-none s.kind;
      body = tt;
      latest = inl refl;
      sent = λ sent. absurd sent;
      apart = λ aborts. absurd cc;
    },
    tt,
  )

  challenge-one : (c : CallName) (owed : Bool) (n : ℕ) → IfSome (challenge_body s l c owed) (OwedAt n)
  challenge-one c owed n =
      let fit = fits.class.challenge c (nonce_at s (conn_at l (connection_of c))) in
      let short = fit.1 in
      where_one (owed && not (is_proved l (connection_of c)))
      (bodies.Challenge (s.class.challenge c (nonce_at s (conn_at l (connection_of c))))) n refl (omega arith)

  class-one : (ch : Channel) (living : Bool) → OwnChannel s ch
      → Every (PlainItem s l) (class_items s l (call_named ch (channel_at l ch).number) (channel_at l ch) living)
  class-one ch true own =
      let c : CallName = call_named ch (channel_at l ch).number in
      every-append (PlainItem s l) (owed_item c (challenge_body s l c (channel_at l ch).owed_challenge))
      (owed_item c (option_map bodies.Response (channel_at l ch).owed_response))
      (owed-one ch (challenge_body s l c (channel_at l ch).owed_challenge) own
      (challenge-one c (channel_at l ch).owed_challenge (channel_at l ch).number))
      (owed-one ch (option_map bodies.Response (channel_at l ch).owed_response) own
      (response_one (channel_at l ch).owed_response (channel_at l ch).number (channel-fits ch).response))
  class-one ch false own = tt

  channel-one : (ch : Channel) → OwnChannel s ch → Every (PlainItem s l) (channel_items s l ch)
  channel-one ch own =
      let q : ChannelLooks = channel_at l ch in
      let c : CallName = call_named ch q.number in
      let living : Bool = is_call (λ k. is_live k.life) (latest l ch) in
      every-append (PlainItem s l) (owed_item c (option_map bodies.Abort q.owed_abort)) _
      (owed-one ch (option_map bodies.Abort q.owed_abort) own
      (abort_one q.owed_abort q.number (channel-fits ch).abort (channel-fits ch).numbered))
      (every-append (PlainItem s l) (busy_items ch q.owed_busy) _ (busy-one ch q.owed_busy own (channel-fits ch).busy)
      (every-append (PlainItem s l) (class_items s l c q living) _ (class-one ch living own)
      (every-append (PlainItem s l) (owed_item c (where_owed q.owed_ackall bodies.AckAll)) (items_of s l (latest l ch))
      (owed-one ch (where_owed q.owed_ackall bodies.AckAll) own
      (where_one q.owed_ackall bodies.AckAll q.number refl tt))
      (call_one s l fits good f ch (latest l ch) refl))))

  on-one : (chs : List Channel) → Every (OwnChannel s) chs → Every (PlainItem s l) (items_on s l chs)
  on-one [] own = tt
  on-one (ch ∷ chs) own = every-append (PlainItem s l) (channel_items s l ch) (items_on s l chs)
      (channel-one ch own.0) (on-one chs own.1)

  -- the next item
  pub next_plain : (i : Item) → next_item s l ≡ Some i → PlainItem s l i
  next_plain i is =
      least-keeps (PlainItem s l) (λ i. i.rank) (filter (λ i. nat_le i.rank l.now) (items s l))
      (every-filter (PlainItem s l) (λ i. nat_le i.rank l.now) (items s l)
      (on-one (all_channels l.conns) (own_channels s l.conns f.conns))) i is
