-- A server's call starts in place of its channel's earlier one, which ends.
use Rattle.std.proofs.Common.{◌≡◌, ◌⊎◌, ◌≤◌, ◌<◌, ℕ, suc, cond, if◌then◌else◌, nat_lt, is_some, Bool, true, false}
use Rattle.std.proofs.Common.{List, [], ◌∷◌, map, Option, Some, None, option_map, refl, ◌∙◌, ap, inl, inr, arith}
use Rattle.std.specs.List.{find}
use Rattle.rx_model.specs.declared.names.CallName.{CallName}
use Rattle.rx_model.specs.Names.{channel_of, connection_of, same_name}
use Rattle.rx_rules.specs.Judging.{opened}
use Rattle.rx_rules.specs.Life.{Life, after_later, is_calling, is_handled, is_live}
use Rattle.rx_rules.specs.Life as lives
use Rattle.rx_rules.specs.Looks.{CallRecord, ConnLooks, Looks, call_at, channel_at, conn_at, is_call, latest}
use Rattle.rx_rules.specs.Looks.{latest_name, on_life}
use Rattle.rx_rules.specs.Records.{started_later}
use Rattle.rx_rules.specs.Setup.{Setup, is_client}
use Rattle.rx_rules.specs.Slots.{count_live, live}
use Rattle.rx_model.proofs.NameLaws.{name_itself}
use Rattle.rx_rules.proofs.CallsLaws.{changed_if}
use Rattle.rx_history.proofs.Calls.{call-changed}
use Rattle.rx_history.proofs.Differ.{every_found}
use Rattle.rx_history.proofs.Dimensions.Dims.{Fades, dims_life, fades_if, fades_life}
use Rattle.rx_history.proofs.Dimensions.DimsLeave.{fewer_live}
use Rattle.rx_history.proofs.LifeFalls.{later_falls}
use Rattle.rx_history.proofs.Order.Orderly.{Orderly, orderly_dims}
use Rattle.rx_history.proofs.Order.OrderlyStart.{orderly_started}
use Rattle.rx_history.proofs.Pairwise.{pairs_map}
use Rattle.rx_history.proofs.Room.RoomStarts.{RoomyAt, roomy_life}
use Rattle.rx_history.proofs.Room.Tight.{TightOf}

-- what the rows leave of a server's call whose number is above its channel's
pub record Opens (s : Setup) (c : CallName) (l : Looks) : Type 0 where
  pub server : is_client s.kind ≡ false
  pub known : is_some (conn_at l (connection_of c)) ≡ true
  pub free : is_call (λ k. is_handled k.life) (latest l (channel_of c)) ≡ false
  pub room : (is_call (λ k. is_live k.life) (latest l (channel_of c)) ≡ true) ⊎ (live l < s.limits.calls)

later-dead : (x : Life) → is_handled x ≡ false → is_calling x ≡ false → is_live (after_later x) ≡ false
later-dead lives.Waiting free served = refl
later-dead lives.Finished free served = refl
later-dead lives.Calling free served = absurd cc
later-dead lives.Accepted free served = absurd cc
later-dead (lives.Broken code) free served = absurd cc
later-dead (lives.Over code) free served = refl
later-dead (lives.Ended end) free served = refl

abbrev later : CallRecord → CallRecord
later k = record k { life = after_later k.life }

-- the earlier one doesn't live behind it
pub ended_dead : (s : Setup) (c : CallName) (l : Looks) → Opens s c l → RoomyAt s l
    → is_call (λ k. is_live k.life)
    (latest (on_life (latest_name l (channel_of c)) after_later l) (channel_of c)) ≡ false
ended_dead s c l opens r =
    let n : CallName = latest_name l (channel_of c) in
    ap (λ (o : Option CallRecord). is_call (λ k. is_live k.life) o)
    (call-changed n n later l (λ k. refl)
    ∙ ap (λ (b : Bool). cond b (option_map later (call_at l n)) (call_at l n)) (name_itself n))
    ∙ of (call_at l n) refl opens.free
  where
    of : (o : Option CallRecord) → call_at l (latest_name l (channel_of c)) ≡ o
        → is_call (λ k. is_handled k.life) o ≡ false
        → is_call (λ k. is_live k.life) (option_map later o) ≡ false
    of None is free = refl
    of (Some k) is free =
        later-dead k.life free
        ((every_found (TightOf (is_client s.kind))
        (λ j. same_name j.name (latest_name l (channel_of c))) l.calls k r.tight is).served opens.server)

count-suc : (b : Bool) (m n : ℕ) → suc m ≤ n → suc (if b then suc m else m) ≤ (if b then suc n else n)
count-suc true m n low = omega arith
count-suc false m n low = low

count-dead : (new old : Bool) (m n : ℕ) → new ≡ false → old ≡ true → m ≤ n
    → suc (if new then suc m else m) ≤ (if old then suc n else n)
count-dead new old m n dead live low = rw (dead, live) (omega arith)

-- where it lived fewer live behind it
fewer-later : (n : CallName) (ks : List CallRecord) (k : CallRecord) → find (λ j. same_name j.name n) ks ≡ Some k
    → is_live k.life ≡ true
    → is_live (after_later k.life) ≡ false → suc (count_live (map (changed_if n later) ks)) ≤ count_live ks
fewer-later n [] k there live dead = absurd cc
fewer-later n (j ∷ ks) k there live dead =
    (elim (same_name j.name n) as (λ b. cond b (Some j) (find (λ i. same_name i.name n) ks) ≡ Some k
    → suc (count_live (cond b (later j) j ∷ map (changed_if n later) ks)) ≤ count_live (j ∷ ks)) [
      | true ↦ λ is. (
          let same : j ≡ k = cc (is) in
          let rest = fewer_live ks (map (changed_if n later) ks)
          (pairs_map Fades (changed_if n later) ks (λ i. fades_if (same_name i.name n) i (later i)
          (fades_life i (after_later i.life) (later_falls i.life)))) in
          count-dead (is_live (after_later j.life)) (is_live j.life) (count_live (map (changed_if n later) ks))
          (count_live ks)
          (ap (λ (i : CallRecord). is_live (after_later i.life)) same ∙ dead)
          (ap (λ (i : CallRecord). is_live i.life) same ∙ live) rest)
      | false ↦ λ is.
          count-suc (is_live j.life) (count_live (map (changed_if n later) ks)) (count_live ks)
          (fewer-later n ks k is live dead)
    ]) there

pub room_behind : (s : Setup) (c : CallName) (l : Looks) → Opens s c l → RoomyAt s l → Orderly s l
    → live (on_life (latest_name l (channel_of c)) after_later l) < s.limits.calls
room_behind s c l opens r o = of opens.room
  where
    n : CallName
    n = latest_name l (channel_of c)

    there : (q : Option CallRecord) → call_at l n ≡ q → is_call (λ k. is_live k.life) q ≡ true
        → is_call (λ k. is_handled k.life) q ≡ false
        → live (on_life n after_later l) < s.limits.calls
    there None is living free = absurd cc
    there (Some k) is living free =
        let served = (every_found (TightOf (is_client s.kind))
        (λ j. same_name j.name n) l.calls k r.tight is).served opens.server in
        let fewer = fewer-later n l.calls k is living (later-dead k.life free served) in
        let low = o.few in
        omega arith

    of : (is_call (λ k. is_live k.life) (latest l (channel_of c)) ≡ true) ⊎ (live l < s.limits.calls)
        → live (on_life n after_later l) < s.limits.calls
    of (inl living) = there (call_at l n) refl living opens.free
    of (inr low) =
        (let fewer = fewer_live l.calls (on_life n after_later l).calls
        (dims_life n after_later l later_falls).calls in omega arith)

-- it starts
pub orderly_opened : (s : Setup) (c : CallName) (l : Looks) → c.chan < 4
    → (nat_lt (channel_at l (channel_of c)).number c.number ≡ true → Opens s c l) → RoomyAt s l → Orderly s l
    → Orderly s (opened s c l)
orderly_opened s c l chan opens r o =
    (elim (nat_lt (channel_at l (channel_of c)).number c.number) as
    (λ b. nat_lt (channel_at l (channel_of c)).number c.number ≡ b
    → Orderly s (cond b (started_later s c l) l)) [
      | true ↦ λ above. start (opens above) (conn_at l (connection_of c)) refl (opens above).known
      | false ↦ λ below. o
    ]) refl
  where
    start : Opens s c l → (q : Option ConnLooks) → conn_at l (connection_of c) ≡ q → is_some q ≡ true
        → Orderly s (started_later s c l)
    start opens None is known = absurd cc
    start opens (Some x) is known =
        let n : CallName = latest_name l (channel_of c) in
        let ended : Looks = on_life n after_later l in
        orderly_started s lives.Waiting c ended x is chan (ended_dead s c l opens r)
        (orderly_dims s l ended (dims_life n after_later l later_falls) o)
        (room_behind s c l opens r o) (roomy_life s n after_later l later_falls r).differ
