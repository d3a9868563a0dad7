-- The slots of a node's calls, where a life falls and where a call starts.
use Rattle.std.proofs.Common.{◌≡◌, ℕ, cond, if◌then◌else◌, nat_lt, Bool, true, false, List}
use Rattle.std.proofs.Common.{refl, sym, subst}
use Rattle.rx_model.specs.declared.pace.Pace.{Pace}
use Rattle.rx_model.specs.declared.names.CallName.{CallName}
use Rattle.rx_model.specs.Names.{channel_of}
use Rattle.rx_rules.specs.CallLooks.{fresh_call}
use Rattle.rx_rules.specs.Judging.{opened}
use Rattle.rx_rules.specs.Life.{Life, is_active, is_calling, after_acks, after_code, after_later}
use Rattle.rx_rules.specs.Life as lives
use Rattle.rx_rules.specs.Looks.{CallRecord, Looks, channel_at, latest_name}
use Rattle.rx_rules.specs.Looks.{on_life}
use Rattle.rx_rules.specs.Records.{started, started_later}
use Rattle.rx_rules.specs.Setup.{Setup, is_client, pace_of, shared_slots}
use Rattle.rx_rules.specs.Slots.{beside}
use Rattle.rx_history.proofs.LifeFalls.{Falls, later_falls}
use Rattle.rx_history.proofs.Room.Roomy.{Roomy, roomy_one, roomy_starts}
use Rattle.rx_history.proofs.Room.Tight.{TightOf, gives_life}

-- of a node
abbrev pub RoomyAt : Setup → Looks → Type 0
RoomyAt s l = Roomy (is_client s.kind) (shared_slots s) l.calls

-- as its calls are
pub roomy_by : (s : Setup) (l m : Looks) → m.calls ≡ l.calls → RoomyAt s l → RoomyAt s m
roomy_by s l m same r = subst (λ (ks : List CallRecord). Roomy (is_client s.kind) (shared_slots s) ks) (sym same) r

-- the life of a call falls
pub roomy_life : (s : Setup) (c : CallName) (change : Life → Life) (l : Looks) → ((x : Life) → Falls x (change x))
    → RoomyAt s l → RoomyAt s (on_life c change l)
roomy_life s c change l falls r =
    roomy_one (is_client s.kind) (shared_slots s) c (λ k. record k { life = change k.life }) l.calls
    (λ k. gives_life (is_client s.kind) k (change k.life) (falls k.life)) r

-- a call starts
pub roomy_started : (s : Setup) (life : Life) (c : CallName) (l : Looks)
    → TightOf (is_client s.kind)
    (record { name = c; life = life; looks = fresh_call (pace_of s) l.now })
    → RoomyAt s l → RoomyAt s (started s life c l)
roomy_started s life c l tight r =
    roomy_starts (is_client s.kind) (shared_slots s)
    (record { name = c; life = life; looks = fresh_call (pace_of s) l.now }) l.calls
    tight (none life) r
  where
    none : (x : Life) → beside (record { name = c; life = x; looks = fresh_call (pace_of s) l.now }) ≡ 0
    none x = of (is_active x)
      where
        of : (b : Bool) → ◌≡◌ {A = ℕ} (if b then 0 else 0) 0
        of true = refl
        of false = refl

-- as it starts it has what it needs
pub fresh_tight : (client : Bool) (life : Life) (c : CallName) (pace : Pace) (now : ℕ)
    → (client ≡ false → is_calling life ≡ false)
    → TightOf client (record { name = c; life = life; looks = fresh_call pace now })
fresh_tight client life c pace now served =
    record {
      whole = λ live ended. absurd cc;
      first = λ client unshut. refl;
      unshut = λ server
          begun. refl;
      served = served;
    }

-- it may start in place of its channel's earlier one
pub roomy_opened : (s : Setup) (c : CallName) (l : Looks) → RoomyAt s l → RoomyAt s (opened s c l)
roomy_opened s c l r =
    (elim (nat_lt (channel_at l (channel_of c)).number c.number) as (λ b. RoomyAt s (cond b (started_later s c l) l)) [
      | true ↦
          roomy_started s lives.Waiting c (on_life (latest_name l (channel_of c)) after_later l)
          (fresh_tight (is_client s.kind) lives.Waiting c (pace_of s) l.now (λ server. refl))
          (roomy_life s (latest_name l (channel_of c)) after_later l later_falls r)
      | false ↦ r
    ])
