-- What a server knows of a call behind an answer that tells to wait.
use Rattle.std.proofs.Common.{◌≡◌, ◌⊎◌, ◌<◌, ◌≤◌, ◌+◌, ◌^◌, ℕ, zero, suc, cond, is_some, true, false, List}
use Rattle.std.proofs.Common.{[], ◌∷◌, Option, Some, None, option_map, refl, ◌∙◌, ap, sym, subst, inl, inr, arith}
use Rattle.rx_model.specs.declared.answers.Took.{Took}
use Rattle.rx_model.specs.declared.answers.Took.TheVariants as tooks
use Rattle.rx_model.specs.declared.names.CallName.{CallName}
use Rattle.rx_model.specs.declared.wire.TheConstants.{IDLE_MS, RX_CALL_DEAD}
use Rattle.rx_rules.specs.After.{owing_busy, taken_with}
use Rattle.rx_rules.specs.Life.{after_code}
use Rattle.rx_rules.specs.Looks.{ChannelLooks, ConnLooks, Looks, call_at, changed_at, conn_at, latest_name, on_channel}
use Rattle.rx_rules.specs.Looks.{on_life}
use Rattle.rx_model.specs.Message.{Message}
use Rattle.rx_model.specs.Names.{Connection, channel_of, connection_of, same_connection}
use Rattle.rx_rules.specs.Setup.{Setup}
use Rattle.rx_rules.proofs.ConnsLaws.{conn_if, conn_at-on_conn, number_of}
use Rattle.rx_rules.proofs.FindLaws.{find_passes}
use Rattle.rx_rules.proofs.KeepsLaws.{keeps-on_channel, keeps-on_life}
use Rattle.rx_rules.proofs.LifeLaws.{code_waits}
use Rattle.rx_model.proofs.NameLaws.{connection_is}
use Rattle.rx_law.proofs.Asks.{waits}
use Rattle.rx_law.proofs.Firm.{busy_in, busy_of, firm-same, young-map}
use Rattle.rx_law.proofs.Recalls.{Recalls, lives-none, lives-some, recalls-keeps}

-- ---- a client is told to wait

busy-owed : (qs : List ChannelLooks) (m n number k : ℕ) → busy_in (changed_at m (owing_busy number) qs) n ≡ Some k
    → (busy_in qs n ≡ Some k) ⊎ ((m ≡ n) × (number ≡ k))
busy-owed [] m n number k is = inl is
busy-owed (q ∷ qs) zero zero number k is = inr (refl, cc (is))
busy-owed (q ∷ qs) zero (suc n) number k is = inl is
busy-owed (q ∷ qs) (suc m) zero number k is = inl is
busy-owed (q ∷ qs) (suc m) (suc n) number k is = up (busy-owed qs m n number k is)
  where
    up : (busy_in qs n ≡ Some k) ⊎ ((m ≡ n) × (number ≡ k)) → (busy_in qs n ≡ Some k) ⊎ ((suc m ≡ suc n) × (number ≡ k))
    up (inl before) = inl before
    up (inr now) = inr (ap (λ (x : ℕ). suc x) now.0, now.1)

-- the change that it makes of a record
abbrev owing : CallName → ConnLooks → ConnLooks
owing d r = record r { channels = changed_at d.chan (owing_busy d.number) r.channels }

busy-at : (l : Looks) (y : Connection) (d : CallName) (n k : ℕ)
    → busy_of (conn_at (on_channel (channel_of d) (owing_busy d.number) l) y) n ≡ Some k
    → (busy_of (conn_at l y) n ≡ Some k) ⊎ ((connection_of d ≡ y) × (d.chan ≡ n) × (d.number ≡ k))
busy-at l y d n k is =
    of (conn_at l y) refl
    (subst (λ (o : Option ConnLooks). busy_of o n ≡ Some k) (conn_at-on_conn y (connection_of d) (owing d) l
    (λ r. refl)) is)
  where
    of : (o : Option ConnLooks) → conn_at l y ≡ o → busy_of (option_map (conn_if (connection_of d) (owing d)) o) n
        ≡ Some k
        → (busy_of o n ≡ Some k) ⊎ ((connection_of d ≡ y) × (d.chan ≡ n) × (d.number ≡ k))
    of None there is = inl is
    of (Some r) there is =
        (elim (same_connection r.connection (connection_of d)) as
        (λ b. same_connection r.connection (connection_of d) ≡ b
        → busy_in (cond b (owing d r) r).channels n ≡ Some k
        → (busy_in r.channels n ≡ Some k) ⊎ ((connection_of d ≡ y) × (d.chan ≡ n) × (d.number ≡ k))) [
          | true ↦ λ same is.
              (elim (busy-owed r.channels d.chan n d.number k is)
              as (λ t. (busy_in r.channels n ≡ Some k) ⊎ ((connection_of d ≡ y) × (d.chan ≡ n) × (d.number ≡ k))) [
                | inl before ↦ inl before
                | inr now ↦ inr (
                  sym (connection_is r.connection (connection_of d) same)
                      ∙ connection_is r.connection y (find_passes
                      (λ q. same_connection q.connection y) l.conns r there),
                  now.0,
                  now.1,
                )
              ])
          | false ↦ λ apart is. inl is
        ]) refl is

-- a BUSY that is owed for a call that isn't there
pub recalls-owing : (c d : CallName) (l : Looks) (u : ℕ) → d.number < 2 ^ 32 → (d ≡ c → call_at l c ≡ None)
    → Recalls l c u
    → Recalls (on_channel (channel_of d) (owing_busy d.number) l) c u
recalls-owing c d l u fits none old =
    let last : Looks = on_channel (channel_of d) (owing_busy d.number) l in
    let keeps = keeps-on_channel c (channel_of d) (owing_busy d.number) l (λ q. refl) in
    let rises = keeps.numbers in
    record {
      before = old.before;
      fours = keeps.fours old.fours;
      young = young-map (connection_of d) (connection_of c) (owing d) l.conns u (λ r. refl) (λ r is. is) old.young;
      held = λ is. (
          elim (old.held is) as (λ t. (c.number ≤ number_of (conn_at last (connection_of c)) c.chan) ⊎
          (u + IDLE_MS ≤ l.now)) [
            | inl there ↦ inl (omega arith)
            | inr idle ↦ inr idle
          ]);
      busy = λ n is. (
          elim (busy-at l (connection_of c) d c.chan n is) as
          (λ t. (n < 2 ^ 32) × (n ≡ c.number → call_at l c ≡ None)) [
            | inl before ↦ old.busy n before
            | inr now ↦ (let same : d.number ≡ n = now.2 in ((omega arith), (λ at. none (one now.0 now.1 (same ∙ at)))))
          ]);
    }
  where
    one : connection_of d ≡ connection_of c → d.chan ≡ c.chan → d.number ≡ c.number → d ≡ c
    one conn chan number =
        λ j. record {
          host = (conn j).host;
          epoch = (conn j).epoch;
          cid =
              (conn j).cid;
          chan = chan j;
          number = number j;
        }

-- so it is where an answer tells to wait
pub recalls-waits : (s : Setup) (got : Took) (c d : CallName) (m : Message) (l : Looks) (u : ℕ) → waits got ≡ true
    → d.number < 2 ^ 32
    → (d ≡ c → call_at l c ≡ None) → Recalls l c u
    → Recalls (taken_with s got d m l) c u × (is_some (call_at (taken_with s got d m l) c) ≡ true
    → is_some (call_at l c) ≡ true)
recalls-waits s tooks.Busy c d m l u is fits none old =
    let broken : Looks = on_life (latest_name l (channel_of d)) (after_code RX_CALL_DEAD) l in
    let keeps = keeps-on_life c (latest_name l (channel_of d)) (after_code RX_CALL_DEAD) l
    (code_waits RX_CALL_DEAD) in (
      recalls-owing c d broken u fits (λ same. lives-none (call_at l c) (call_at broken c) keeps.calls (none same))
          (recalls-keeps c l broken u keeps (firm-same c l broken refl refl) old),
      λ there. lives-some (call_at l c) (call_at broken c) keeps.calls there,
    )
recalls-waits s tooks.NoRoom c d m l u is fits none old = (recalls-owing c d l u fits none old, λ there. there)
recalls-waits s _ c d m l u is fits none old = absurd cc
