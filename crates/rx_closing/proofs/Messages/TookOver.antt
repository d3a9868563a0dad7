-- What a message makes of a call that isn't at work any more: its record stays, and its channel owes its code again.
use Rattle.std.proofs.Common.{◌≡◌, ◌≤◌, cond, ℕ, ℤ, zero, suc, Bool, true, false, List, [], ◌∷◌, Option, Some, None}
use Rattle.std.proofs.Common.{option_map, refl, ◌∙◌, ap, sym, subst, is_some, arith}
use Rattle.std.specs.Prelude.{slice_get, unwrap_or}
use Rattle.rx_model.specs.declared.answers.Took.TheVariants as tooks
use Rattle.rx_model.specs.declared.names.CallName.{CallName}
use Rattle.rx_model.specs.declared.names.Host.{Host}
use Rattle.rx_model.specs.Body.{Body}
use Rattle.rx_model.specs.Body as bodies
use Rattle.rx_model.specs.Message.{Message}
use Rattle.rx_model.specs.Names.{Channel, Connection, channel_of, connection_of, same_connection}
use Rattle.rx_rules.specs.After.{owing_abort, owing_again, prepared, served_code, taken_over, taken_with}
use Rattle.rx_rules.specs.Judging.{is_peer}
use Rattle.rx_rules.specs.Life.{Life}
use Rattle.rx_rules.specs.Life as lives
use Rattle.rx_rules.specs.Looks.{CallRecord, ChannelLooks, ConnLooks, Looks, changed_at, channel_at, conn_at}
use Rattle.rx_rules.specs.Looks.{fresh_channel, on_channel}
use Rattle.rx_rules.specs.Records.{used}
use Rattle.rx_rules.specs.Setup.{Setup}
use Rattle.rx_rules.proofs.ConnsLaws.{channel_number, conn_if, conn_at-on_conn, number_in, number_of}
use Rattle.rx_rules.proofs.FindLaws.{find_passes}
use Rattle.rx_closing.proofs.Messages.Rows.{IsLast}
use Rattle.rx_closing.proofs.Messages.TookOwn.{TookOwn, used_peer}
use Rattle.rx_closing.proofs.Telling.AbortOwed.{channel_in}
use Rattle.rx_history.proofs.Laws.TakenLaws.{again-number}
use Rattle.rx_history.proofs.Plain.PlainBodies.{IsSent}

-- ---- a change of one channel, seen at it

some_in : (qs : List ChannelLooks) (n : ℕ) → 1 ≤ number_in qs n → is_some (slice_get qs n) ≡ true
some_in [] n some = absurd (omega arith)
some_in (q ∷ qs) zero some = refl
some_in (q ∷ qs) (suc n) some = some_in qs n some

changed_own : (qs : List ChannelLooks) (n : ℕ) (f : ChannelLooks → ChannelLooks) → is_some (slice_get qs n) ≡ true
    → unwrap_or (slice_get (changed_at n f qs) n) (fresh_channel 0)
    ≡ f (unwrap_or (slice_get qs n) (fresh_channel 0))
changed_own [] n f some = absurd cc
changed_own (q ∷ qs) zero f some = refl
changed_own (q ∷ qs) (suc n) f some = changed_own qs n f some

-- a channel that had a call changes so
pub channel_changed : (l : Looks) (ch : Channel) (f : ChannelLooks → ChannelLooks) → 1 ≤ (channel_at l ch).number
    → channel_at (on_channel ch f l) ch ≡ f (channel_at l ch)
channel_changed l ch f some =
    ap (λ (o : Option ConnLooks). channel_in o ch.chan)
    (conn_at-on_conn ch.connection ch.connection change l (λ r. refl))
    ∙ of (conn_at l ch.connection) refl (subst (λ (n : ℕ). 1 ≤ n) (channel_number l ch) some)
  where
    change : ConnLooks → ConnLooks
    change r = record r { channels = changed_at ch.chan f r.channels }

    of : (o : Option ConnLooks) → conn_at l ch.connection ≡ o → 1 ≤ number_of o ch.chan
        → channel_in (option_map (conn_if ch.connection change) o) ch.chan ≡ f (channel_in o ch.chan)
    of None is some = absurd (omega arith)
    of (Some r) is some =
        ap (λ (b : Bool). unwrap_or (slice_get (cond b (change r) r).channels ch.chan) (fresh_channel 0))
        (find_passes (λ q. same_connection q.connection ch.connection) l.conns r is)
        ∙ changed_own r.channels ch.chan f (some_in r.channels ch.chan some)

-- where its connection is used it stays
pub used_channel : (l : Looks) (x : Connection) (ch : Channel) → channel_at (used x l) ch ≡ channel_at l ch
used_channel l x ch =
    ap (λ (o : Option ConnLooks). channel_in o ch.chan)
    (conn_at-on_conn ch.connection x (λ r. record r { last_use = l.now }) l (λ r. refl))
    ∙ of (conn_at l ch.connection)
  where
    change : ConnLooks → ConnLooks
    change r = record r { last_use = l.now }

    of : (o : Option ConnLooks) → channel_in (option_map (conn_if x change) o) ch.chan ≡ channel_in o ch.chan
    of None = refl
    of (Some r) = by (same_connection r.connection x)
      where
        by : (b : Bool) → unwrap_or (slice_get (cond b (change r) r).channels ch.chan) (fresh_channel 0)
            ≡ unwrap_or (slice_get r.channels ch.chan) (fresh_channel 0)
        by true = refl
        by false = refl

-- a peer stays where a channel changes
pub channel_peer : (l : Looks) (ch : Channel) (f : ChannelLooks → ChannelLooks) (x : Connection) (from : Host)
    → is_peer from (conn_at (on_channel ch f l) x) ≡ is_peer from (conn_at l x)
channel_peer l ch f x from =
    ap (is_peer from) (conn_at-on_conn x ch.connection change l (λ r. refl)) ∙ of (conn_at l x)
  where
    change : ConnLooks → ConnLooks
    change r = record r { channels = changed_at ch.chan f r.channels }

    of : (o : Option ConnLooks) → is_peer from (option_map (conn_if ch.connection change) o) ≡ is_peer from o
    of None = refl
    of (Some r) = by (same_connection r.connection ch.connection)
      where
        by : (b : Bool) → is_peer from (Some (cond b (change r) r)) ≡ is_peer from (Some r)
        by true = refl
        by false = refl

-- ---- a message of a call that ended

-- the code of a server's call that is over or broken is owed again
pub again_owes : (body : Body) (life : Life) (code : ℤ) (q : ChannelLooks) → IsSent body
    → served_code life ≡ Some code
    → (owing_again body life q).owed_abort ≡ Some code
again_owes (bodies.Chunk payload) (lives.Broken told) code q stream is = is
again_owes (bodies.Chunk payload) (lives.Over (Some told)) code q stream is = is
again_owes (bodies.Chunk payload) (lives.Over None) code q stream is = absurd cc
again_owes (bodies.Chunk payload) lives.Calling code q stream is = absurd cc
again_owes (bodies.Chunk payload) (lives.Ended end) code q stream is = absurd cc
again_owes (bodies.Chunk payload) lives.Waiting code q stream is = absurd cc
again_owes (bodies.Chunk payload) lives.Accepted code q stream is = absurd cc
again_owes (bodies.Chunk payload) lives.Finished code q stream is = absurd cc
again_owes (bodies.Ack a) life code q stream is =
    ap (λ (o : Option ℤ). (owing_abort o q).owed_abort) is
again_owes _ life code q stream is = absurd stream

-- what is known of the call's record, its channel and its connection behind a message
pub record TookOver (c : CallName) (l : Looks) (k : CallRecord) (body : Body) (m : Looks) : Type 0 where
  pub own : TookOwn c l k m
  pub owes : channel_at m (channel_of c) ≡ owing_again body k.life (channel_at l (channel_of c))

pub took_over : (s : Setup) (l : Looks) (c : CallName) (k : CallRecord) (m : Message) → IsLast l c k
    → TookOver c l k m.body (taken_with s tooks.Over c m (prepared s tooks.Over (connection_of c) l))
took_over s l c k m last =
    subst (λ (o : Option CallRecord). TookOver c l k m.body (taken_over c m.body o r)) (sym last.there)
    (record {
      own =
          record {
            there = last.there;
            number =
                ap (λ (q : ChannelLooks). q.number) owes ∙ again-number m.body k.life (channel_at l (channel_of c));
            peer = λ from.
                channel_peer r (channel_of c) (owing_again m.body k.life) (connection_of c) from
                ∙ used_peer (connection_of c) l from;
            now = refl;
          };
      owes = owes;
    })
  where
    r : Looks
    r = used (connection_of c) l

    owes : channel_at (on_channel (channel_of c) (owing_again m.body k.life) r) (channel_of c)
        ≡ owing_again m.body k.life (channel_at l (channel_of c))
    owes =
        channel_changed r (channel_of c) (owing_again m.body k.life)
        (subst (λ (q : ChannelLooks). 1 ≤ q.number) (sym (used_channel l (connection_of c) (channel_of c)))
        (subst (λ (n : ℕ). 1 ≤ n) (sym last.number) last.some))
        ∙ ap (owing_again m.body k.life) (used_channel l (connection_of c) (channel_of c))
