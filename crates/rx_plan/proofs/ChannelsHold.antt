-- What holds of each channel of a connection holds behind changes of its channels.
use Rattle.std.proofs.Common.{Bool, List, None, Option, Some, [], ap, cond, false, inl, inr, map, refl}
use Rattle.std.proofs.Common.{slice_get, subst, suc, sym, true, unwrap_or, zero, ℕ, ◌∙◌, ◌∷◌, ◌≡◌, ◌⊎◌}
use Rattle.std.specs.List.{find}
use Rattle.std.specs.Option.{option_and_then}
use Rattle.rx_model.specs.declared.names.CallName.{CallName}
use Rattle.rx_model.specs.declared.names.Host.{Host}
use Rattle.rx_model.specs.Names.{Channel, Connection, channel_of, connection_of, same_connection}
use Rattle.rx_model.proofs.NameLaws.{connection_is}
use Rattle.rx_rules.specs.Looks.{ChannelLooks, ConnLooks, Looks, changed_at, channel_at, conn_at, fresh_channel}
use Rattle.rx_rules.specs.Looks.{on_channel}
use Rattle.rx_rules.specs.Records.{fresh_conn}
use Rattle.rx_rules.proofs.ConnsLaws.{conn_if, number_of}
use Rattle.rx_rules.proofs.EveryLaws.{Every}
use Rattle.rx_rules.proofs.FindLaws.{find_passes}
use Rattle.rx_history.proofs.Differ.{Differ, by_connection, every_found, every_map, none_change}

-- ---- a list with a changed place

-- what stands there now is what stood there, or its change
record Changed (m : ℕ) (f : ChannelLooks → ChannelLooks) (qs : List ChannelLooks) (n : ℕ) (q : ChannelLooks)
    : Type 0 where
  old : ChannelLooks
  there : slice_get qs n ≡ Some old
  is : (q ≡ old) ⊎ ((n ≡ m) × (q ≡ f old))

one_is : (a b : ChannelLooks) → Some a ≡ Some b → a ≡ b
one_is a b is = cc

changed_get : (m : ℕ) (f : ChannelLooks → ChannelLooks) (qs : List ChannelLooks) (n : ℕ) (q : ChannelLooks)
    → slice_get (changed_at m f qs) n ≡ Some q → Changed m f qs n q
changed_get m f [] n q is = absurd cc
changed_get zero f (x ∷ xs) zero q is =
    record { old = x; there = refl; is = inr (refl, sym (one_is (f x) q is)) }
changed_get zero f (x ∷ xs) (suc n) q is = record { old = q; there = is; is = inl refl }
changed_get (suc m) f (x ∷ xs) zero q is = record { old = q; there = is; is = inl refl }
changed_get (suc m) f (x ∷ xs) (suc n) q is =
    (let c : Changed m f xs n q = changed_get m f xs n q is in
    record { old = c.old; there = c.there; is = more c.old c.is })
  where
    more : (old : ChannelLooks) → (q ≡ old) ⊎ ((n ≡ m) × (q ≡ f old)) → (q ≡ old) ⊎ ((suc n ≡ suc m) × (q ≡ f old))
    more old (inl same) = inl same
    more old (inr new) = inr (ap suc new.0, new.1)

-- where no two connections have one name, and the call is the latest of its channel
pub record IsOwnLatest (l : Looks) (d : CallName) : Type 0 where
  pub differ : Differ by_connection l.conns
  pub number : number_of (conn_at l (connection_of d)) d.chan ≡ d.number

module _ (C : Connection → ℕ → ℕ → ChannelLooks → Type 0) where
  -- it holds of each channel of a record
  abbrev pub Channels : ConnLooks → Type 0
  Channels r = (n : ℕ) (q : ChannelLooks) → slice_get r.channels n ≡ Some q → C r.connection r.order n q

  -- ---- a changed channel

  changed : (x : Connection) (order m : ℕ) (f : ChannelLooks → ChannelLooks) (qs : List ChannelLooks)
      → ((q : ChannelLooks) → slice_get qs m ≡ Some q → C x order m q → C x order m (f q))
      → ((n : ℕ) (q : ChannelLooks) → slice_get qs n ≡ Some q → C x order n q) → (n : ℕ) (q : ChannelLooks)
      → slice_get (changed_at m f qs) n ≡ Some q → C x order n q
  changed x order m f qs keeps all n q is = by (changed_get m f qs n q is)
    where
      by : Changed m f qs n q → C x order n q
      by c = of c.is
        where
          of : (q ≡ c.old) ⊎ ((n ≡ m) × (q ≡ f c.old)) → C x order n q
          of (inl same) = subst (C x order n) (sym same) (all n c.old c.there)
          of (inr new) =
              subst (C x order n) (sym new.1)
              (subst (λ (j : ℕ). C x order j (f c.old)) (sym new.0)
              (keeps c.old (subst (λ (j : ℕ). slice_get qs j ≡ Some c.old) new.0 c.there)
              (subst (λ (j : ℕ). C x order j c.old) new.0 (all n c.old c.there))))

  -- of one record, whichever it is
  pub channels_changed : (m : ℕ) (f : ChannelLooks → ChannelLooks) (r : ConnLooks)
      → ((q : ChannelLooks) → C r.connection r.order m q → C r.connection r.order m (f q)) → Channels r
      → Channels (record r { channels = changed_at m f r.channels })
  channels_changed m f r keeps all =
      changed r.connection r.order m f r.channels (λ q there. keeps q) all

  if_own : (b : Bool) (f : ConnLooks → ConnLooks) (r : ConnLooks) → (b ≡ true → Channels r → Channels (f r))
      → Channels r → Channels (cond b (f r) r)
  if_own true f r keeps all = keeps refl all
  if_own false f r keeps all = all

  -- a channel of a node changes
  pub channel_changed : (ch : Channel) (f : ChannelLooks → ChannelLooks) (l : Looks)
      → ((order : ℕ) (q : ChannelLooks) → C ch.connection order ch.chan q → C ch.connection order ch.chan (f q))
      → Every Channels l.conns → Every Channels (on_channel ch f l).conns
  channel_changed ch f l keeps all =
      every_map Channels Channels (conn_if ch.connection (λ r. record r { channels = changed_at ch.chan f r.channels }))
      l.conns
      (λ r here.
      if_own (same_connection r.connection ch.connection)
      (λ r. record r { channels = changed_at ch.chan f r.channels }) r
      (λ own.
      channels_changed ch.chan f r
      (λ q.
      subst (λ (x : Connection). C x r.order ch.chan q → C x r.order ch.chan (f q))
      (sym (connection_is r.connection ch.connection own)) (keeps r.order q))) here) all

  -- ---- the channel of its latest call

  one_conn : (x : Connection) (f : ConnLooks → ConnLooks) (rs : List ConnLooks) → Differ by_connection rs
      → ((r : ConnLooks) → find (λ q. same_connection q.connection x) rs ≡ Some r → Channels r → Channels (f r))
      → Every Channels rs → Every Channels (map (conn_if x f) rs)
  one_conn x f [] differ keeps all = tt
  one_conn x f (r ∷ rs) differ keeps all =
      (elim (same_connection r.connection x) as (λ b. same_connection r.connection x ≡ b
      → ((j : ConnLooks) → cond b (Some r) (find (λ q. same_connection q.connection x) rs) ≡ Some j → Channels j
      → Channels (f j))
      → Channels (cond b (f r) r) × Every Channels (map (conn_if x f) rs)) [
        | true ↦ λ own keeps. (
          keeps r refl all.0,
          subst (λ (qs : List ConnLooks). Every Channels qs)
              (sym (none_change (λ q. same_connection q.connection x) f rs
              (subst (λ (y : Connection). Every (λ (q : ConnLooks). same_connection q.connection y ≡ false) rs)
              (connection_is r.connection x own) differ.0))) all.1,
        )
        | false ↦ λ other keeps. (all.0, one_conn x f rs differ.1 keeps all.1)
      ]) refl keeps

  pub latest_changed : (d : CallName) (f : ChannelLooks → ChannelLooks) (l : Looks) → IsOwnLatest l d
      → ((order : ℕ) (q : ChannelLooks) → q.number ≡ d.number → C (connection_of d) order d.chan q
      → C (connection_of d) order d.chan (f q)) → Every Channels l.conns
      → Every Channels (on_channel (channel_of d) f l).conns
  latest_changed d f l own keeps all =
      one_conn (connection_of d) (λ r. record r { channels = changed_at d.chan f r.channels }) l.conns own.differ
      (λ r found.
      let name : r.connection ≡ connection_of d =
      connection_is r.connection (connection_of d)
      (find_passes (λ j. same_connection j.connection (connection_of d)) l.conns r found) in
      changed r.connection r.order d.chan f r.channels
      (λ q there.
      let number : q.number ≡ d.number =
      sym (ap (λ (o : Option ChannelLooks). (unwrap_or o (fresh_channel 0)).number) there)
      ∙ sym (ap (λ (o : Option ConnLooks). number_of o d.chan) found) ∙ own.number in
      subst (λ (x : Connection). C x r.order d.chan q → C x r.order d.chan (f q)) (sym name) (keeps r.order q number)))
      all

  -- ---- a new record

  fresh_get : (x : Connection) (peer : Host) (service first : ℕ) (l : Looks) (n : ℕ) (q : ChannelLooks)
      → slice_get (fresh_conn x peer service first l).channels n ≡ Some q → fresh_channel 0 ≡ q
  fresh_get x peer service first l zero q is = one_is (fresh_channel 0) q is
  fresh_get x peer service first l (suc zero) q is = one_is (fresh_channel 0) q is
  fresh_get x peer service first l (suc (suc zero)) q is = one_is (fresh_channel 0) q is
  fresh_get x peer service first l (suc (suc (suc zero))) q is = one_is (fresh_channel 0) q is
  fresh_get x peer service first l (suc (suc (suc (suc n)))) q is = absurd cc

  -- its channels are fresh
  pub fresh_channels : (x : Connection) (peer : Host) (service first : ℕ) (l : Looks)
      → ((order n : ℕ) → C x order n (fresh_channel 0)) → Channels (fresh_conn x peer service first l)
  fresh_channels x peer service first l fresh n q is =
      subst (C x l.entered n) (fresh_get x peer service first l n q is) (fresh l.entered n)

  -- ---- a channel that is looked for

  -- what holds of each channel and of a fresh one holds of it
  pub channel_here : (l : Looks) (ch : Channel) → ((order : ℕ) → C ch.connection order ch.chan (fresh_channel 0))
      → Every Channels l.conns → (order : ℕ) × C ch.connection order ch.chan (channel_at l ch)
  channel_here l ch fresh all = conn (conn_at l ch.connection) refl
    where
      At : ChannelLooks → Type 0
      At q = (order : ℕ) × C ch.connection order ch.chan q

      chan : (r : ConnLooks) (o : Option ChannelLooks) → r.connection ≡ ch.connection → Channels r
          → slice_get r.channels ch.chan ≡ o → At (unwrap_or o (fresh_channel 0))
      chan r None name here is = (0, fresh 0)
      chan r (Some q) name here is =
          (r.order, subst (λ (x : Connection). C x r.order ch.chan q) name (here ch.chan q is))

      conn : (o : Option ConnLooks) → conn_at l ch.connection ≡ o
          → At (unwrap_or (option_and_then (λ r. slice_get r.channels ch.chan) o) (fresh_channel 0))
      conn None is = (0, fresh 0)
      conn (Some r) is =
          chan r (slice_get r.channels ch.chan)
          (connection_is r.connection ch.connection
          (find_passes (λ q. same_connection q.connection ch.connection) l.conns r is))
          (every_found Channels (λ q. same_connection q.connection ch.connection) l.conns r all is) refl
