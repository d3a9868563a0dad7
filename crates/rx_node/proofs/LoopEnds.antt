-- Once the last channel's call changed, every call of a connection that lives did.
use Rattle.std.proofs.Common.{◌≡◌, ◌≤◌, ◌<◌, ◌+◌, ◌*◌, ◌/◌, ◌&&◌, ℕ, ℤ, Bool, true, false, List}
use Rattle.std.proofs.Common.{Option, Some, None, refl, ◌∙◌, ap, sym, arith, if◌then◌else◌}
use Rattle.std.proofs.lemmas.Bool.Decides.{nat_tests}
use Rattle.std.specs.Prelude.{slice_get, nat_lt, nat_le}
use Rattle.rx_model.specs.declared.names.CallName.{CallName}
use Rattle.rx_model.specs.Names.{Channel, Connection, connection_of, same_connection}
use Rattle.rx_rules.specs.Life.{after_code, is_active, is_live}
use Rattle.rx_rules.specs.Looks.{CallRecord, ConnLooks, Looks, call_at, on_calls}
use Rattle.rx_rules.specs.Records.{unless_silent}
use Rattle.rx_rules.specs.Setup.{Setup}
use Rattle.rx_model.proofs.NameLaws.{connection_itself, refuted}
use Rattle.rx_history.proofs.Differ.{Differ, by_name}
use Rattle.rx_history.proofs.Order.Orderly.{Orderly}
use Rattle.rx_node.specs.declared.life.Turn.TheVariants as turns
use Rattle.rx_node.proofs.CallChanges.{FoundIn, every_own, every_then, map_both}
use Rattle.rx_node.proofs.CallLoops.{LiveAt, OfLive, among, change_among, key_of, live_at}
use Rattle.rx_node.proofs.Steps.ChannelSteps.{place_is}
use Rattle.rx_node.proofs.Steps.TableSteps.{decided}
use Rattle.rx_node.proofs.LifeLaws.{turn_ended}

within-place : (key place : ℕ) → key / 4 ≡ place → (nat_le (4 * place) key && nat_lt key (4 * place + 4)) ≡ true
within-place key place is =
    let lower : 4 * place ≤ key = omega arith in
    let upper : key < 4 * place + 4 = omega arith in
    let above : nat_le (4 * place) key ≡ true = grind (arith, nat_tests, lower) in
    let below : nat_lt key (4 * place + 4) ≡ true = grind (arith, nat_tests, upper) in
    rw (above, below) refl

beyond-place : (key place : ℕ) → (key / 4 ≡ place → ⊥) → (nat_le (4 * place) key && nat_lt key (4 * place + 4)) ≡ false
beyond-place key place other =
    (elim (nat_le (4 * place) key) as (λ b. nat_le (4 * place) key ≡ b → (b && nat_lt key (4 * place + 4)) ≡ false) [
      | true ↦ λ above. refuted (nat_lt key (4 * place + 4)) (λ below. (
          let lower : 4 * place ≤ key = grind (arith, nat_tests, above) in
          let upper : key < 4 * place + 4 = grind (arith, nat_tests, below) in
          other (omega arith)))
      | false ↦ λ under. refl
    ]) refl

either-same : {X : Type 0} (b c : Bool) (x y : X) → x ≡ y → (if b then x else y) ≡ (if c then x else y)
either-same true true x y same = refl
either-same true false x y same = same
either-same false true x y same = sym same
either-same false false x y same = refl

module _ (s : Setup) (l : Looks) (orderly : Orderly s l) (differ : Differ by_name l.calls)
    (numbered : (c : CallName) → c.number ≡ 0 → call_at l c ≡ None) (f : CallRecord → CallRecord)
    (of_live : OfLive f) where
  -- the calls of the connection at a place did
  pub loop_conn : (place : ℕ) (x : ConnLooks) → slice_get l.conns place ≡ Some x
      → on_calls (change_among (4 * place) (4 * place + 4) f l) l
      ≡ on_calls (λ k. if same_connection (connection_of k.name) x.connection then f k else k) l
  loop_conn place x there =
      ap (λ (ks : List CallRecord). record l { calls = ks })
      (map_both (change_among (4 * place) (4 * place + 4) f l)
      (λ k. if same_connection (connection_of k.name) x.connection then f k else k) l.calls
      (every_then (FoundIn l.calls) (λ k. change_among (4 * place) (4 * place + 4) f l k
      ≡ (if same_connection (connection_of k.name) x.connection then f k else k)) l.calls each
      (every_own l.calls differ)))
    where
      lives : (k : CallRecord) → LiveAt s l orderly differ numbered k
          → among (4 * place) (4 * place + 4) (key_of l k.name) ≡ same_connection (connection_of k.name) x.connection
      lives k it =
          ap (λ (o : Option ℕ). among (4 * place) (4 * place + 4) o) it.is
          ∙ decided ((nat_le (4 * place) it.key && nat_lt it.key (4 * place + 4))
          ≡ same_connection (connection_of k.name) x.connection) (it.key / 4) place
          (λ here. (
          let one : it.channel.conn ≡ x =
          (let both = sym it.channel.there ∙ ap (λ (p : ℕ). slice_get l.conns p) here ∙ there in cc (both)) in
          let name : connection_of k.name ≡ x.connection = named ∙ ap (λ (r : ConnLooks). r.connection) one in
          within-place it.key place here
          ∙ sym (ap (λ (y : Connection). same_connection y x.connection) name ∙ connection_itself x.connection)))
          (λ away. (
          beyond-place it.key place away
          ∙ sym (refuted (same_connection (connection_of k.name) x.connection)
          (λ same. away (place_is l.conns (it.key / 4) place it.channel.conn x orderly.conns.differ
          it.channel.there there
          (ap (λ (y : Connection). same_connection y x.connection) (sym named) ∙ same))))))
        where
          named : connection_of k.name ≡ it.channel.conn.connection
          named = ap (λ (c : Channel). c.connection) it.channel.is

      each : (k : CallRecord) → FoundIn l.calls k → change_among (4 * place) (4 * place + 4) f l k
          ≡ (if same_connection (connection_of k.name) x.connection then f k else k)
      each k own =
          (elim (is_live k.life) as (λ b. is_live k.life ≡ b → change_among (4 * place) (4 * place + 4) f l k
          ≡ (if same_connection (connection_of k.name) x.connection then f k else k)) [
            | true ↦ λ live. ap (λ (b : Bool). if b then f k else k)
                (lives k (live_at s l orderly differ numbered k own.found live))
            | false ↦ λ none.
                either-same (among (4 * place) (4 * place + 4) (key_of l k.name))
                (same_connection (connection_of k.name) x.connection) (f k) k (of_live.ended k none)
          ]) refl

-- ---- changes of calls that live

-- a code reaches no call that ended
pub code_of_live : (code : ℤ) → OfLive (λ k. record k { life = after_code code k.life })
code_of_live code =
    record { names = λ k. refl; ended = λ k ended i. record k { life = turn_ended (turns.Code code) k.life ended i } }

-- nor silence
pub unless_active : (now : ℕ) (k : CallRecord) → is_active k.life ≡ false → unless_silent now k ≡ k
unless_active now k none = rw none refl
