-- What the channels of a node may owe, by the names of their latest calls: an ABORT or an ACKALL where something is so
-- of the call, and nothing else; and which changes leave it so.
use Rattle.std.proofs.Common.{◌≡◌, ℕ, ℤ, cond, if◌then◌else◌, Bool, true, false, [], ◌∷◌, Option, Some, None, refl, sym}
use Rattle.std.proofs.Common.{subst}
use Rattle.rx_model.specs.declared.names.CallName.{CallName}
use Rattle.rx_model.specs.declared.names.Host.{Host}
use Rattle.rx_model.specs.Body.{Body}
use Rattle.rx_model.specs.Body as bodies
use Rattle.rx_model.specs.Names.{Channel, Connection, channel_of, same_connection}
use Rattle.rx_rules.specs.After.{is_ok_end, owing_abort, owing_ackall, owing_again, served_code, told_code}
use Rattle.rx_rules.specs.Life.{Life}
use Rattle.rx_rules.specs.Looks.{ChannelLooks, ConnLooks, Looks, call_named, fresh_channel, on_channel, on_conn}
use Rattle.rx_rules.specs.Records.{fresh_conn, placed}
use Rattle.rx_rules.proofs.ConnsLaws.{conn_if}
use Rattle.rx_rules.proofs.EveryLaws.{Every, every-append}
use Rattle.rx_history.proofs.Differ.{every_map}
use Rattle.rx_plan.proofs.ChannelsHold.{Channels, channel_changed, fresh_channels}

module _ (A K : CallName → Type 0) where
  -- ---- a channel

  -- it owes an ABORT where `A` is so of its latest call, an ACKALL where `K` is, and nothing else
  pub record MayOwe (ch : Channel) (q : ChannelLooks) : Type 0 where
    pub abort : (code : ℤ) → q.owed_abort ≡ Some code → A (call_named ch q.number)
    pub ackall : q.owed_ackall ≡ true → K (call_named ch q.number)
    pub busy : q.owed_busy ≡ None
    pub challenge : q.owed_challenge ≡ false
    pub response : q.owed_response ≡ None

  -- in its place among those of a connection
  abbrev pub Sits : Connection → ℕ → ℕ → ChannelLooks → Type 0
  Sits x order n q = MayOwe (record { connection = x; chan = n }) q

  -- each channel of these connections
  abbrev pub EachMay : Looks → Type 0
  EachMay l = Every (Channels Sits) l.conns

  -- a change that leaves a channel so
  abbrev pub Leaves : (ChannelLooks → ChannelLooks) → Type 0
  Leaves f = (ch : Channel) (q : ChannelLooks) → MayOwe ch q → MayOwe ch (f q)

  -- a fresh channel owes nothing
  pub fresh_may : (ch : Channel) (n : ℕ) → MayOwe ch (fresh_channel n)
  fresh_may ch n =
      record {
        abort = λ code is. absurd cc;
        ackall = λ is. absurd cc;
        busy = refl;
        challenge = refl;
        response = refl;
      }

  -- no longer owing an ABORT
  pub no_abort : Leaves (λ q. record q { owed_abort = None })
  no_abort ch q may =
      record {
        abort = λ code is. absurd cc;
        ackall = may.ackall;
        busy = may.busy;
        challenge = may.challenge;
        response = may.response;
      }

  -- no longer owing a BUSY
  pub no_busy : Leaves (λ q. record q { owed_busy = None })
  no_busy ch q may =
      record {
        abort = may.abort;
        ackall = may.ackall;
        busy = refl;
        challenge = may.challenge;
        response = may.response;
      }

  -- no longer owing an ACKALL
  pub no_ackall : Leaves (λ q. record q { owed_ackall = false })
  no_ackall ch q may =
      record {
        abort = may.abort;
        ackall = λ is. absurd cc;
        busy = may.busy;
        challenge = may.challenge;
        response = may.response;
      }

  -- no longer owing a CHALLENGE
  pub no_challenge : Leaves (λ q. record q { owed_challenge = false })
  no_challenge ch q may =
      record {
        abort = may.abort;
        ackall = may.ackall;
        busy = may.busy;
        challenge = refl;
        response = may.response;
      }

  -- no longer owing a RESPONSE
  pub no_response : Leaves (λ q. record q { owed_response = None })
  no_response ch q may =
      record {
        abort = may.abort;
        ackall = may.ackall;
        busy = may.busy;
        challenge = may.challenge;
        response = refl;
      }

  -- ---- what is told again

  -- why a message for a call that ended may have it told again
  abbrev pub Tells : Body → Life → CallName → Type 0
  Tells (bodies.Chunk payload) life d =
      ((code : ℤ) → told_code life ≡ Some code → A d) × (is_ok_end life ≡ true → K d)
  Tells (bodies.Ack a) life d = (code : ℤ) → served_code life ≡ Some code → A d
  Tells _ life d = Unit {0}

  abort_may : (o : Option ℤ) (d : CallName) (q : ChannelLooks) → q.number ≡ d.number
      → ((code : ℤ) → o ≡ Some code → A d) → MayOwe (channel_of d) q → MayOwe (channel_of d) (owing_abort o q)
  abort_may None d q number gives may = may
  abort_may (Some told) d q number gives may =
      record {
        abort = λ code is. subst (λ (n : ℕ). A (call_named (channel_of d) n)) (sym number) (gives told refl);
        ackall = may.ackall;
        busy = may.busy;
        challenge = may.challenge;
        response = may.response;
      }

  ackall_may : (b : Bool) (d : CallName) (q : ChannelLooks) → q.number ≡ d.number → (b ≡ true → K d)
      → MayOwe (channel_of d) q → MayOwe (channel_of d) (owing_ackall b q)
  ackall_may false d q number gives may = may
  ackall_may true d q number gives may =
      record {
        abort = may.abort;
        ackall = λ is. subst (λ (n : ℕ). K (call_named (channel_of d) n)) (sym number) (gives refl);
        busy = may.busy;
        challenge = may.challenge;
        response = may.response;
      }

  abort_number : (o : Option ℤ) (q : ChannelLooks) (n : ℕ) → q.number ≡ n → (owing_abort o q).number ≡ n
  abort_number None q n is = is
  abort_number (Some told) q n is = is

  -- a message for a call that ended, where that may be told again
  pub again_may : (body : Body) (life : Life) (d : CallName) (q : ChannelLooks) → q.number ≡ d.number
      → Tells body life d → MayOwe (channel_of d) q → MayOwe (channel_of d) (owing_again body life q)
  again_may (bodies.Chunk payload) life d q number tells may =
      ackall_may (is_ok_end life) d (owing_abort (told_code life) q) (abort_number (told_code life) q d.number number)
      tells.1 (abort_may (told_code life) d q number tells.0 may)
  again_may (bodies.Ack a) life d q number tells may = abort_may (served_code life) d q number tells may
  again_may _ life d q number tells may = may

  -- ---- changes

  -- one channel changes
  pub hold_channel : (ch : Channel) (f : ChannelLooks → ChannelLooks) (l : Looks) → Leaves f → EachMay l
      → EachMay (on_channel ch f l)
  hold_channel ch f l leaves all = channel_changed Sits ch f l (λ order q may. leaves ch q may) all

  if_conn : (b : Bool) (f : ConnLooks → ConnLooks) (r : ConnLooks) → (Channels Sits r → Channels Sits (f r))
      → Channels Sits r → Channels Sits (cond b (f r) r)
  if_conn true f r keeps here = keeps here
  if_conn false f r keeps here = here

  -- a connection changes
  pub hold_conn : (x : Connection) (f : ConnLooks → ConnLooks) (l : Looks)
      → ((r : ConnLooks) → Channels Sits r → Channels Sits (f r)) → EachMay l → EachMay (on_conn x f l)
  hold_conn x f l keeps all =
      every_map (Channels Sits) (Channels Sits) (conn_if x f) l.conns
      (λ r here. if_conn (same_connection r.connection x) f r (keeps r) here) all

  -- by a test
  pub hold_if : (b : Bool) (m l : Looks) → EachMay m → EachMay l → EachMay (if b then m else l)
  hold_if true m l here there = here
  hold_if false m l here there = there

  -- a connection is placed
  pub hold_placed : (new : ConnLooks) (o : Option ConnLooks) (l : Looks) → Channels Sits new → EachMay l
      → EachMay (placed new o l)
  hold_placed new None l here all = every-append (Channels Sits) l.conns (new ∷ []) all (here, tt)
  hold_placed new (Some old) l here all =
      every_map (Channels Sits) (Channels Sits)
      (λ r. if same_connection r.connection old.connection then new else r) l.conns
      (λ r own. if_conn (same_connection r.connection old.connection) (λ q. new) r (λ y. here) own) all

  -- a new connection owes nothing
  pub fresh_all : (x : Connection) (peer : Host) (service first : ℕ) (l : Looks)
      → Channels Sits (fresh_conn x peer service first l)
  fresh_all x peer service first l =
      fresh_channels Sits x peer service first l (λ order n. fresh_may (record { connection = x; chan = n }) 0)
