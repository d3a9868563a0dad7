-- What changes of its connection and its channel leave of a call that a server knows: where the channel is still at
-- that call, it was so before, and it owes still what it owed.
use Rattle.std.proofs.Common.{◌≡◌, ◌⊎◌, ◌≤◌, cond, if◌then◌else◌, nat_lt, ℕ, ℤ, zero, suc, Bool, true, false, List, []}
use Rattle.std.proofs.Common.{◌∷◌, map, Option, Some, None, option_map, refl, ◌∙◌, ap, sym, subst, inl, inr, is_some}
use Rattle.std.proofs.Common.{arith}
use Rattle.std.specs.List.{find}
use Rattle.std.specs.Prelude.{option_and_then, slice_get, unwrap_or}
use Rattle.rx_model.specs.declared.answers.Took.{Took}
use Rattle.rx_model.specs.declared.names.CallName.{CallName}
use Rattle.rx_model.specs.Body.{Body}
use Rattle.rx_model.specs.Body as bodies
use Rattle.rx_model.specs.Names.{Channel, Connection, channel_of, connection_of, same_channel, same_connection}
use Rattle.rx_model.proofs.NameLaws.{channel_is, connection_is}
use Rattle.rx_rules.specs.After.{enters, owing_abort, owing_ackall, owing_again, prepared, is_ok_end, told_code}
use Rattle.rx_rules.specs.After.{served_code}
use Rattle.rx_rules.specs.Judging.{opened}
use Rattle.rx_rules.specs.Life.{Life}
use Rattle.rx_rules.specs.Looks.{ChannelLooks, ConnLooks, Looks, call_named, changed_at, channel_at, conn_at}
use Rattle.rx_rules.specs.Looks.{fresh_channel, on_channel}
use Rattle.rx_rules.specs.Records.{entered, fresh_conn, idle_conn, is_full, placed, started_later, used, with_conn}
use Rattle.rx_rules.specs.Setup.{Client, Kind, Server, Setup, named}
use Rattle.rx_rules.proofs.ConnsLaws.{channel_number, conn_at-on_conn, conn_if, number_in, number_of}
use Rattle.rx_rules.proofs.EnterLaws.{fresh_channels}
use Rattle.rx_rules.proofs.FindLaws.{find_passes}
use Rattle.rx_history.proofs.Places.{OnlyNew, found-placed, fresh-number}
use Rattle.rx_closing.proofs.Telling.AbortOwed.{channel_apart, conn_channel}
use Rattle.rx_closing.proofs.Telling.TurnsKeep.{channel_holds}
use Rattle.rx_history.proofs.Laws.ShownLaws.{given_way}

-- ---- a change of a channel

-- a channel that begins anew has the new number, or it isn't there
began_in : (number : ℕ) (qs : List ChannelLooks) (n : ℕ)
    → (number_in (changed_at n (λ q. fresh_channel number) qs) n ≡ number)
    ⊎ (number_in (changed_at n (λ q. fresh_channel number) qs) n ≡ 0)
began_in number [] n = inr refl
began_in number (q ∷ qs) zero = inl refl
began_in number (q ∷ qs) (suc n) = began_in number qs n

began_number : (number : ℕ) (l : Looks) (ch : Channel)
    → ((channel_at (on_channel ch (λ q. fresh_channel number) l) ch).number ≡ number)
    ⊎ ((channel_at (on_channel ch (λ q. fresh_channel number) l) ch).number ≡ 0)
began_number number l ch =
    subst (λ (n : ℕ). (n ≡ number) ⊎ (n ≡ 0))
    (sym (channel_number (on_channel ch (λ q. fresh_channel number) l) ch
    ∙ ap (λ (o : Option ConnLooks). number_of o ch.chan)
    (conn_at-on_conn ch.connection ch.connection change l (λ r. refl))))
    (of (conn_at l ch.connection) refl)
  where
    change : ConnLooks → ConnLooks
    change r = record r { channels = changed_at ch.chan (λ q. fresh_channel number) r.channels }

    of : (o : Option ConnLooks) → conn_at l ch.connection ≡ o
        → (number_of (option_map (conn_if ch.connection change) o) ch.chan ≡ number)
        ⊎ (number_of (option_map (conn_if ch.connection change) o) ch.chan ≡ 0)
    of None there = inr refl
    of (Some r) there =
        subst (λ (b : Bool). (number_in (cond b (change r) r).channels ch.chan ≡ number)
        ⊎ (number_in (cond b (change r) r).channels ch.chan ≡ 0))
        (sym (find_passes (λ (q : ConnLooks). same_connection q.connection ch.connection) l.conns r there))
        (began_in number r.channels ch.chan)

-- ---- what a channel owes

-- what nothing that a message tells a channel takes from it, but for a BUSY
pub record StaysOwed (P : ChannelLooks → Type 0) : Type 0 where
  pub challenge : (q : ChannelLooks) → P q → P (record q { owed_challenge = true })
  pub response : (o : Option (List ℕ)) (q : ChannelLooks) → P q → P (record q { owed_response = o })
  pub abort : (o : Option ℤ) (q : ChannelLooks) → P q → P (owing_abort o q)
  pub ackall : (b : Bool) (q : ChannelLooks) → P q → P (owing_ackall b q)

-- a message for a call that ended doesn't either
pub again_stays : (P : ChannelLooks → Type 0) → StaysOwed P → (body : Body) (life : Life) (q : ChannelLooks) → P q
    → P (owing_again body life q)
again_stays P stays (bodies.Chunk payload) life q is =
    stays.ackall (is_ok_end life) (owing_abort (told_code life) q) (stays.abort (told_code life) q is)
again_stays P stays (bodies.Ack a) life q is = stays.abort (served_code life) q is
again_stays P stays bodies.Busy life q is = is
again_stays P stays (bodies.Abort code) life q is = is
again_stays P stays bodies.AckAll life q is = is
again_stays P stays (bodies.Challenge bytes) life q is = is
again_stays P stays (bodies.Response bytes) life q is = is

-- an ABORT, with whatever code
abbrev pub OwesAbort : ChannelLooks → Type 0
OwesAbort q = is_some q.owed_abort ≡ true

pub abort_stays : StaysOwed OwesAbort
abort_stays =
    record {
      challenge = λ q is. is;
      response = λ o q is. is;
      abort = abort;
      ackall = ackall;
    }
  where
    abort : (o : Option ℤ) (q : ChannelLooks) → OwesAbort q → OwesAbort (owing_abort o q)
    abort None q is = is
    abort (Some code) q is = refl

    ackall : (b : Bool) (q : ChannelLooks) → OwesAbort q → OwesAbort (owing_ackall b q)
    ackall true q is = is
    ackall false q is = is

-- a BUSY for this number
abbrev pub OwesBusy : ℕ → ChannelLooks → Type 0
OwesBusy number q = q.owed_busy ≡ Some number

pub busy_stays : (number : ℕ) → StaysOwed (OwesBusy number)
busy_stays number =
    record {
      challenge = λ q is. is;
      response = λ o q is. is;
      abort = abort;
      ackall = ackall;
    }
  where
    abort : (o : Option ℤ) (q : ChannelLooks) → OwesBusy number q → OwesBusy number (owing_abort o q)
    abort None q is = is
    abort (Some code) q is = is

    ackall : (b : Bool) (q : ChannelLooks) → OwesBusy number q → OwesBusy number (owing_ackall b q)
    ackall true q is = is
    ackall false q is = is

-- ---- from one moment to a later one

-- where the channel of a call is still at it, it was so before, and what it owed is owed still
pub record HoldsOwed (P : ChannelLooks → Type 0) (c : CallName) (l m : Looks) : Type 0 where
  pub back :
      (channel_at m (channel_of c)).number ≡ c.number → (channel_at l (channel_of c)).number ≡ c.number
  pub owes :
      (channel_at m (channel_of c)).number ≡ c.number → P (channel_at l (channel_of c))
      → P (channel_at m (channel_of c))

pub holds_same : (P : ChannelLooks → Type 0) (c : CallName) (l m : Looks)
    → channel_at m (channel_of c) ≡ channel_at l (channel_of c) → HoldsOwed P c l m
holds_same P c l m same =
    record {
      back = λ number. ap (λ (q : ChannelLooks). q.number) (sym same) ∙ number;
      owes = λ number is. subst P (sym same) is;
    }

pub holds_then : (P : ChannelLooks → Type 0) (c : CallName) (l m n : Looks) → HoldsOwed P c l m → HoldsOwed P c m n
    → HoldsOwed P c l n
holds_then P c l m n first second =
    record {
      back = λ number. first.back (second.back number);
      owes = λ number is. second.owes number (first.owes (second.back number) is);
    }

module _ (P : ChannelLooks → Type 0) (c : CallName) (some : 1 ≤ c.number) where
  -- where the channel is at no call
  holds_zero : (l m : Looks) → (channel_at m (channel_of c)).number ≡ 0 → HoldsOwed P c l m
  holds_zero l m zero_ =
      record {
        back = λ number. absurd (let both : c.number ≡ 0 = sym number ∙ zero_ in omega arith);
        owes = λ number is. absurd (let both : c.number ≡ 0 = sym number ∙ zero_ in omega arith);
      }

  -- a change of a channel that leaves both
  pub holds_channel : (ch : Channel) (f : ChannelLooks → ChannelLooks) (l : Looks)
      → ((q : ChannelLooks) → (f q).number ≡ q.number) → ((q : ChannelLooks) → P q → P (f q))
      → HoldsOwed P c l (on_channel ch f l)
  holds_channel ch f l numbers owes =
      record {
        back = λ number.
            sym (channel_holds (λ (q : ChannelLooks). q.number ≡ (channel_at l (channel_of c)).number) l ch
            (channel_of c) f (λ q is. numbers q ∙ is) refl) ∙ number;
        owes = λ number is. channel_holds P l ch (channel_of c) f owes is;
      }

  -- of whatever kind it is, where it is of another channel
  pub holds_told : (ch : Channel) (f : ChannelLooks → ChannelLooks) (l : Looks)
      → ((q : ChannelLooks) → (f q).number ≡ q.number)
      → (ch ≡ channel_of c → (q : ChannelLooks) → P q → P (f q)) → HoldsOwed P c l (on_channel ch f l)
  holds_told ch f l numbers owes = by (same_channel (channel_of c) ch) refl
    where
      by : (b : Bool) → same_channel (channel_of c) ch ≡ b → HoldsOwed P c l (on_channel ch f l)
      by true same = holds_channel ch f l numbers (owes (sym (channel_is (channel_of c) ch same)))
      by false apart = holds_same P c l (on_channel ch f l) (channel_apart l ch (channel_of c) f apart)

  -- ---- a connection is entered

  find_gone : (x : Connection) (new old : ConnLooks) → same_connection old.connection x ≡ true → (rs : List ConnLooks)
      → OnlyNew new (find (λ r. same_connection r.connection x) (map (given_way new old) rs))
  find_gone x new old own [] = tt
  find_gone x new old own (r ∷ rs) =
      by (same_connection r.connection old.connection) refl (find_gone x new old own rs)
    where
      at : old.connection ≡ x
      at = connection_is old.connection x own

      by : (b : Bool) → same_connection r.connection old.connection ≡ b
          → OnlyNew new (find (λ q. same_connection q.connection x) (map (given_way new old) rs))
          → OnlyNew new (cond (same_connection (cond b new r).connection x) (Some (cond b new r))
          (find (λ q. same_connection q.connection x) (map (given_way new old) rs)))
      by true same rest = first (same_connection new.connection x)
        where
          first : (b : Bool)
              → OnlyNew new (cond b (Some new)
              (find (λ q. same_connection q.connection x) (map (given_way new old) rs)))
          first true = refl
          first false = rest
      by false other rest =
          subst (λ (b : Bool).
          OnlyNew new (cond b (Some r) (find (λ q. same_connection q.connection x) (map (given_way new old) rs))))
          (sym (subst (λ (z : Connection). same_connection r.connection z ≡ false) at other)) rest

  only_zero : (x y : Connection) (new : ConnLooks) (l : Looks) (n : ℕ) → new.channels ≡ fresh_channels x
      → OnlyNew new (conn_at l y) → number_of (conn_at l y) n ≡ 0
  only_zero x y new l n fresh only = of (conn_at l y) only
    where
      of : (o : Option ConnLooks) → OnlyNew new o → number_of o n ≡ 0
      of None is = refl
      of (Some r) is =
          ap (λ (q : ConnLooks). number_in q.channels n) is ∙ ap (λ (qs : List ChannelLooks). number_in qs n) fresh
          ∙ fresh-number x n

  -- it stands in a free place, or in that of another, or of this one
  holds_placed : (x : Connection) (new : ConnLooks) (o : Option ConnLooks) (l : Looks) → new.connection ≡ x
      → new.channels ≡ fresh_channels x → conn_at l x ≡ None → HoldsOwed P c l (placed new o l)
  holds_placed x new o l named fresh unknown = of o
    where
      y : Connection
      y = connection_of c

      gone : (m : Looks) → OnlyNew new (conn_at m y) → HoldsOwed P c l m
      gone m only =
          holds_zero l m (channel_number m (channel_of c) ∙ only_zero x y new m c.chan fresh only)

      found : (m : Looks)
          → (conn_at m y ≡ conn_at l y) ⊎ ((conn_at l y ≡ None) × OnlyNew new (conn_at m y)) → HoldsOwed P c l m
      found m (inl same) =
          holds_same P c l m (ap (λ (q : Option ConnLooks). unwrap_or (option_and_then
          (λ r. slice_get r.channels c.chan) q) (fresh_channel 0)) same)
      found m (inr both) = gone m both.1

      of : (o : Option ConnLooks) → HoldsOwed P c l (placed new o l)
      of None = found (placed new None l) (found-placed x y new None l named (λ is. unknown) tt (conn_at l y) refl)
      of (Some old) = by (same_connection old.connection y) refl
        where
          by : (b : Bool) → same_connection old.connection y ≡ b → HoldsOwed P c l (placed new (Some old) l)
          by true own = gone (placed new (Some old) l) (find_gone y new old own l.conns)
          by false apart =
              found (placed new (Some old) l)
              (found-placed x y new (Some old) l named (λ is. unknown) apart (conn_at l y) refl)

  holds_with_conn : (s : Setup) (kind : Kind) (x : Connection) (l : Looks) → conn_at l x ≡ None
      → HoldsOwed P c l (with_conn s kind x l)
  holds_with_conn s (Client host epoch) x l none = holds_same P c l l refl
  holds_with_conn s (Server service nonces) x l none =
      holds_placed x (fresh_conn x x.host service 1 l) (if is_full s l then idle_conn l else None) l refl refl none

  none_of : (o : Option ConnLooks) → is_some o ≡ false → o ≡ None
  none_of None is = refl
  none_of (Some r) is = absurd cc

  holds_entered : (s : Setup) (x : Connection) (l : Looks) → HoldsOwed P c l (entered s x l)
  holds_entered s x l = by (is_some (conn_at l x)) refl
    where
      by : (b : Bool) → is_some (conn_at l x) ≡ b → HoldsOwed P c l (cond b l (with_conn s s.kind x l))
      by true is = holds_same P c l l refl
      by false is = holds_with_conn s s.kind x l (none_of (conn_at l x) is)

  pub holds_prepared : (s : Setup) (got : Took) (x : Connection) (l : Looks) → HoldsOwed P c l (prepared s got x l)
  holds_prepared s got x l = by (enters got)
    where
      uses : (m : Looks) → HoldsOwed P c l m → HoldsOwed P c l (used x m)
      uses m first =
          holds_then P c l m (used x m) first
          (holds_same P c m (used x m)
          (conn_channel x (λ (r : ConnLooks). record r { last_use = m.now }) m (channel_of c) (λ r. refl) (λ r. refl)))

      by : (b : Bool) → HoldsOwed P c l (used x (if b then entered s x l else l))
      by true = uses (entered s x l) (holds_entered s x l)
      by false = uses l (holds_same P c l l refl)

  -- ---- a call starts, another than this

  pub holds_opened : (s : Setup) (d : CallName) (l : Looks)
      → (d ≡ c → nat_lt (channel_at l (channel_of d)).number d.number ≡ true → ⊥) → HoldsOwed P c l (opened s d l)
  holds_opened s d l none = by (nat_lt (channel_at l (channel_of d)).number d.number) refl
    where
      begun : Looks
      begun = on_channel (channel_of d) (λ q. fresh_channel d.number) l

      starts : nat_lt (channel_at l (channel_of d)).number d.number ≡ true → (b : Bool)
          → same_channel (channel_of c) (channel_of d) ≡ b → HoldsOwed P c l begun
      starts above false apart =
          holds_same P c l begun (channel_apart l (channel_of d) (channel_of c) (λ q. fresh_channel d.number) apart)
      starts above true same = of (began_number d.number l (channel_of d))
        where
          on : channel_of c ≡ channel_of d
          on = channel_is (channel_of c) (channel_of d) same

          never : (channel_at begun (channel_of c)).number ≡ c.number
              → (channel_at begun (channel_of d)).number ≡ d.number → ⊥
          never at is =
              (let number : d.number ≡ c.number =
              sym is ∙ ap (λ (ch : Channel). (channel_at begun ch).number) (sym on) ∙ at in
              let own : d ≡ c = λ i. call_named (sym on i) (number i) in
              none own above)

          of : ((channel_at begun (channel_of d)).number ≡ d.number) ⊎ ((channel_at begun (channel_of d)).number ≡ 0)
              → HoldsOwed P c l begun
          of (inl is) =
              record {
                back = λ number. absurd (never number is);
                owes = λ number owed. absurd (never number is);
              }
          of (inr is) =
              holds_zero l begun (ap (λ (ch : Channel). (channel_at begun ch).number) on ∙ is)

      by : (b : Bool) → nat_lt (channel_at l (channel_of d)).number d.number ≡ b
          → HoldsOwed P c l (cond b (started_later s d l) l)
      by false other = holds_same P c l l refl
      by true above =
          holds_then P c l begun (started_later s d l)
          (starts above (same_channel (channel_of c) (channel_of d)) refl)
          (holds_same P c begun (started_later s d l) refl)
