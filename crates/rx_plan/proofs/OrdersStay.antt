-- While a server starts no call anew, a call that is its channel's latest is so by one record of its connection.
use Rattle.std.proofs.Common.{Err, List, None, Ok, Option, Result, Some, [], ap, cond, false, is_some}
use Rattle.std.proofs.Common.{refl, slice_get, subst, sym, true, unwrap_or, ℕ, ◌++◌, ◌==◌, ◌∙◌}
use Rattle.std.proofs.Common.{◌∷◌, ◌≡◌}
use Rattle.std.specs.List.{find}
use Rattle.rx_model.specs.declared.answers.BadMsg.{BadMsg}
use Rattle.rx_model.specs.declared.answers.Took.{Took}
use Rattle.rx_model.specs.declared.answers.Took.TheVariants as tooks
use Rattle.rx_model.specs.declared.event.Event.{Event}
use Rattle.rx_model.specs.declared.event.Event.TheVariants as events
use Rattle.rx_model.specs.declared.names.CallName.{CallName}
use Rattle.rx_model.specs.declared.names.Host.{Host}
use Rattle.rx_model.specs.declared.wire.TheConstants.{RX_PROTOCOL_ERROR}
use Rattle.rx_model.specs.Body.{Body}
use Rattle.rx_model.specs.Body as bodies
use Rattle.rx_model.specs.Message.{Message}
use Rattle.rx_model.specs.Names.{Connection, channel_of, connection_of, same_connection, same_name}
use Rattle.rx_model.specs.Reading.{reading_of}
use Rattle.rx_model.proofs.NameLaws.{connection_is, connection_itself, name_itself}
use Rattle.rx_rules.specs.After.{acknowledged, after, is_end, looks, owing_abort, owing_again, prepared}
use Rattle.rx_rules.specs.CallLooks.{after_read, after_write}
use Rattle.rx_rules.specs.Judging.{nonce_at}
use Rattle.rx_rules.specs.Life.{after_end}
use Rattle.rx_rules.specs.Looks.{CallRecord, ChannelLooks, ConnLooks, Looks, call_at, conn_at, fresh_channel, on_looks}
use Rattle.rx_rules.specs.Rules.{AllowedServer, Legal}
use Rattle.rx_rules.specs.Setup.{IsServer, Setup, named, nonce_of}
use Rattle.rx_rules.proofs.ConnsLaws.{number_of}
use Rattle.rx_rules.proofs.EveryLaws.{Every}
use Rattle.rx_rules.proofs.FindLaws.{find_passes}
use Rattle.rx_history.specs.Starts.{StartsOnce}
use Rattle.rx_history.proofs.Differ.{Differ, by_connection, every_found}
use Rattle.rx_history.proofs.Laws.OnceLaw.{served}
use Rattle.rx_history.proofs.Laws.TakenLaws.{abort-number, again-number}
use Rattle.rx_plan.proofs.ChannelsHold.{Channels, channel_changed, channels_changed, fresh_channels}
use Rattle.rx_plan.proofs.ConnsHold.{Bears, Lasts, MayTake, MayTakeFrom, MayTell, hold_after}
use Rattle.rx_plan.proofs.Holding.{holds-on_call, holds-on_life, holds_after}
use Rattle.rx_plan.proofs.Passed.{LeavesStreams, StartsAnewAt, StartsAnewBy, StartsAnewOf}
use Rattle.rx_plan.proofs.Passing.{starts_anew}
use Rattle.rx_history.proofs.LifeFalls.{end_falls}
use Rattle.rx_history.proofs.Events.{calls-prepared}

-- a call that is there
abbrev IsSome : Option CallRecord → Type 0
IsSome o = is_some o ≡ true

module _ (s : Setup) (c : CallName) (order : ℕ) (some : (c.number == 0) ≡ false) where
  -- where the call is this channel's latest, the record is the one of this order
  abbrev IsOf : Connection → ℕ → ℕ → ChannelLooks → Type 0
  IsOf x its n q = x ≡ connection_of c → n ≡ c.chan → q.number ≡ c.number → its ≡ order

  abbrev pub Orders : ConnLooks → Type 0
  Orders r = Channels IsOf r

  none_fresh : 0 ≡ c.number → ⊥
  none_fresh is = (let zero' : (c.number == 0) ≡ true = ap (λ (n : ℕ). n == 0) (sym is) in absurd cc)

  lasts : Lasts s Orders
  lasts =
      record {
        used = λ r now here. here;
        given = λ r given now here. here;
        proved = λ r here. here;
        cleared = λ r n f clears here.
            channels_changed IsOf n f r (λ q so own at number. so own at (sym (clears.number q) ∙ number)) here;
        entered = λ x service l server.
            fresh_channels IsOf x x.host service 1 l (λ its n own at number. absurd (none_fresh number));
      }

  -- a change that leaves the channel its number
  bears_same : (d : CallName) (f : ChannelLooks → ChannelLooks) (l : Looks)
      → ((q : ChannelLooks) → (f q).number ≡ q.number) → Bears s Orders (channel_of d) f l
  bears_same d f l same =
      channel_changed IsOf (channel_of d) f l (λ its q so own at number. so own at (sym (same q) ∙ number))

  -- the start of another call
  bears_start : (d : CallName) (l : Looks) → (same_name c d ≡ true → ⊥)
      → Bears s Orders (channel_of d) (λ q. fresh_channel d.number) l
  bears_start d l other =
      channel_changed IsOf (channel_of d) (λ q. fresh_channel d.number) l
      (λ its q so own at number. absurd (other (subst (λ (n : CallName). same_name c n ≡ true)
      (one own at number) (name_itself c))))
    where
      one : connection_of d ≡ connection_of c → d.chan ≡ c.chan → d.number ≡ c.number → c ≡ d
      one own at number = λ i.
          record {
            host = (sym own i).host;
            epoch = (sym own i).epoch;
            cid = (sym own i).cid;
            chan = sym at i;
            number = sym number i;
          }

  -- ---- an event

  take_orders : (got : Took) (d : CallName) (body : Body) (l : Looks) → IsSome (call_at l c) → StartsAnewBy got c d l
      → MayTake s Orders got d body l
  take_orders tooks.Kept d body l there anew = λ above.
      bears_start d l (λ same. (let none : is_some (call_at l c) ≡ false =
      ap (λ (o : Option CallRecord). is_some o) (anew same above) in absurd cc))
  take_orders tooks.NoSlot d body l there anew = λ above.
      bears_start d l (λ same. (let none : is_some (call_at l c) ≡ false =
      ap (λ (o : Option CallRecord). is_some o) (anew same above) in absurd cc))
  take_orders tooks.Heard d (bodies.Challenge asked) l there anew =
      bears_same d (λ q. record q { owed_response = s.class.respond d asked }) l (λ q. refl)
  take_orders tooks.Stopped d (bodies.Response bytes) l there anew =
      bears_same d (owing_abort (Some RX_PROTOCOL_ERROR)) l (abort-number (Some RX_PROTOCOL_ERROR))
  take_orders tooks.Over d body l there anew = λ k found.
      bears_same d (owing_again body k.life) l (again-number body k.life)
  take_orders _ d body l there anew = tt

  taken_orders : (from : Host) (reading : Result Message BadMsg) (got : Took) (l : Looks) → IsSome (call_at l c)
      → StartsAnewOf s l from reading got c → MayTakeFrom s Orders l from reading got
  taken_orders from (Err bad) got l there anew = tt
  taken_orders from (Ok m) got l there anew = λ front.
      take_orders got (named s from m) m.body (prepared s got (connection_of (named s from m)) l)
      (subst (λ (ks : List CallRecord). IsSome (find (λ k. same_name k.name c) ks))
      (sym (calls-prepared s got (connection_of (named s from m)) l)) there) (anew front)

  event_orders : (l : Looks) (e : Event) → AllowedServer s l e → IsSome (call_at l c) → StartsAnewAt s l c e
      → MayTell s Orders l e
  event_orders l (events.Taken from bytes got) allowed there anew =
      taken_orders from (reading_of bytes) got l there anew
  event_orders l (events.Finished d code (Ok done)) allowed there anew = λ more.
      bears_same d (owing_abort (Some code)) l (abort-number (Some code))
  event_orders l (events.Finished d code (Err refused)) allowed there anew = tt
  event_orders l (events.Accepted got) allowed there anew = tt
  event_orders l (events.Wrote d offered got bytes) allowed there anew = tt
  event_orders l (events.HasRead d max got bytes) allowed there anew = tt
  event_orders l (events.Polled got) allowed there anew = tt
  event_orders l (events.Clocked now) allowed there anew = tt
  event_orders l (events.Linked to service first got) allowed there anew = absurd allowed
  event_orders l (events.Called cid got) allowed there anew = absurd allowed
  event_orders l (events.Shut d got) allowed there anew = absurd allowed
  event_orders l (events.Ended d got) allowed there anew = absurd allowed
  event_orders l (events.Cancelled d code got) allowed there anew = absurd allowed

  -- ---- a call stays

  stays : (l : Looks) (e : Event) → AllowedServer s l e → LeavesStreams c e → StartsAnewAt s l c e
      → IsSome (call_at l c) → IsSome (call_at (after s e l) c)
  stays l e allowed leaves anew there =
      holds_after IsSome (λ k new same held. refl) (λ k life falls held. refl) (λ k none held. refl) s l c e allowed
      leaves anew there

  still : (l : Looks) (e : Event) → AllowedServer s l e → StartsAnewAt s l c e → IsSome (call_at l c)
      → IsSome (call_at (after s e l) c)
  still l (events.Wrote d offered got bytes) allowed anew there =
      holds-on_call IsSome (λ k new same held. refl) (λ k life falls held. refl) (λ k none held. refl) c d
      (λ k. record k { looks = after_write bytes k.looks }) l (λ k. refl) (λ k held. refl) there
  still l (events.HasRead d max got bytes) allowed anew there =
      holds-on_life IsSome (λ k new same held. refl) (λ k life falls held. refl) (λ k none held. refl) c d
      (after_end (is_end got)) (on_looks d (after_read l.now (is_end got) bytes) (acknowledged (is_end got) d l))
      (end_falls (is_end got))
      (holds-on_call IsSome (λ k new same held. refl) (λ k life falls held. refl) (λ k none held. refl) c d
      (λ k. record k { looks = after_read l.now (is_end got) bytes k.looks }) (acknowledged (is_end got) d l)
      (λ k. refl) (λ k held. refl) there)
  still l (events.Taken from bytes got) allowed anew there = stays l (events.Taken from bytes got) allowed tt anew there
  still l (events.Finished d code got) allowed anew there = stays l (events.Finished d code got) allowed tt anew there
  still l (events.Accepted got) allowed anew there = stays l (events.Accepted got) allowed tt anew there
  still l (events.Polled got) allowed anew there = stays l (events.Polled got) allowed tt anew there
  still l (events.Clocked now) allowed anew there = stays l (events.Clocked now) allowed tt anew there
  still l (events.Linked to service first got) allowed anew there = absurd allowed
  still l (events.Called cid got) allowed anew there = absurd allowed
  still l (events.Shut d got) allowed anew there = absurd allowed
  still l (events.Ended d got) allowed anew there = absurd allowed
  still l (events.Cancelled d code got) allowed anew there = absurd allowed

  -- ---- a history

  pub record Stands (l : Looks) : Type 0 where
    pub there : is_some (call_at l c) ≡ true
    pub orders : Every Orders l.conns

  -- from a moment of it on
  pub orders_later : (later before : List Event) → IsServer s.kind → Legal s (later ++ before)
      → StartsOnce s (later ++ before) c → Stands (looks s before) → Stands (looks s (later ++ before))
  orders_later [] before server legal once old = old
  orders_later (e ∷ later) before server legal once old =
      let h : List Event = later ++ before in
      let l : Looks = looks s h in
      let now : Stands l = orders_later later before server legal.1 once.1 old in
      let allowed = served s.kind s l e server legal.0 in
      let anew : StartsAnewAt s l c e = starts_anew s l c e once.0 in
      record {
        there = still l e allowed anew now.there;
        orders = hold_after s Orders lasts l e (event_orders l e allowed now.there anew) now.orders;
      }

  -- ---- at a moment

  -- where no two connections have one name, it is so of every record once it is of the one that is there
  pub orders_at : (rs : List ConnLooks) (r : ConnLooks) → Differ by_connection rs
      → find (λ q. same_connection q.connection (connection_of c)) rs ≡ Some r → r.order ≡ order → Every Orders rs
  orders_at [] r differ found is = tt
  orders_at (q ∷ qs) r differ found is =
      (elim (same_connection q.connection (connection_of c)) as (λ b. same_connection q.connection (connection_of c) ≡ b
      → cond b (Some q) (find (λ p. same_connection p.connection (connection_of c)) qs) ≡ Some r
      → Every Orders (q ∷ qs)) [
        | true ↦ λ own found. (
          (λ n ch there own at number. (let one : q ≡ r = cc in ap (λ (p : ConnLooks). p.order) one ∙ is)),
          others qs
              (subst (λ (y : Connection). Every (λ (p : ConnLooks). same_connection p.connection y ≡ false) qs)
              (connection_is q.connection (connection_of c) own) differ.0),
        )
        | false ↦ λ other found. (apart q other, orders_at qs r differ.1 found is)
      ]) refl found
    where
      apart : (p : ConnLooks) → same_connection p.connection (connection_of c) ≡ false → Orders p
      apart p other n ch at own place number =
          absurd (let yes : same_connection p.connection (connection_of c) ≡ true =
          subst (λ (y : Connection). same_connection p.connection y ≡ true) own (connection_itself p.connection) in cc)

      others : (ps : List ConnLooks)
          → Every (λ (p : ConnLooks). same_connection p.connection (connection_of c) ≡ false) ps → Every Orders ps
      others [] all = tt
      others (p ∷ ps) all = (apart p all.0, others ps all.1)

  -- the nonce of a connection whose channel's latest call it is
  pub nonce_here : (l : Looks) → Every Orders l.conns → number_of (conn_at l (connection_of c)) c.chan ≡ c.number
      → nonce_at s (conn_at l (connection_of c)) ≡ nonce_of s.kind order
  nonce_here l all number = of (conn_at l (connection_of c)) refl number
    where
      chan : (r : ConnLooks) (o : Option ChannelLooks) → slice_get r.channels c.chan ≡ o
          → (unwrap_or o (fresh_channel 0)).number ≡ c.number → r.connection ≡ connection_of c → Orders r
          → r.order ≡ order
      chan r None is number own here = absurd (none_fresh number)
      chan r (Some q) is number own here = here c.chan q is own refl number

      of : (o : Option ConnLooks) → conn_at l (connection_of c) ≡ o → number_of o c.chan ≡ c.number
          → nonce_at s o ≡ nonce_of s.kind order
      of None is number = absurd (none_fresh number)
      of (Some r) is number =
          ap (λ (n : ℕ). nonce_of s.kind n)
          (chan r (slice_get r.channels c.chan) refl number
          (connection_is r.connection (connection_of c)
          (find_passes (λ q. same_connection q.connection (connection_of c)) l.conns r is))
          (every_found Orders (λ q. same_connection q.connection (connection_of c)) l.conns r all is))
