-- Where nothing that comes is old, a server starts no call of a connection while it has a record.
use Rattle.std.proofs.Common.{◌≡◌, ◌⊎◌, ◌==◌, ◌≤◌, ◌+◌, ℕ, zero, suc, cond, nat_lt, is_some, Bool, true, false, List}
use Rattle.std.proofs.Common.{[], ◌∷◌}
use Rattle.std.proofs.Common.{refl, inl, inr, arith}
use Rattle.std.proofs.lemmas.Bool.Decides.{nat_tests}
use Rattle.rx_model.specs.declared.answers.Took.TheVariants as tooks
use Rattle.rx_model.specs.declared.event.Event.{Event}
use Rattle.rx_model.specs.declared.event.Event.TheVariants as events
use Rattle.rx_model.specs.declared.event.Noted.{Noted}
use Rattle.rx_model.specs.declared.names.CallName.{CallName}
use Rattle.rx_model.specs.declared.wire.TheConstants.{LIFETIME_MS}
use Rattle.rx_rules.specs.After.{looks}
use Rattle.rx_rules.specs.Looks.{Looks}
use Rattle.rx_model.specs.Names.{connection_of}
use Rattle.rx_rules.specs.Rules.{Legal}
use Rattle.rx_rules.specs.Setup.{Setup}
use Rattle.rx_law.specs.Promises.{at_client, at_server}
use Rattle.rx_history.specs.Sides.{moment, side, with_clock}
use Rattle.rx_history.specs.Starts.{StartsNew, StartsOnce}
use Rattle.rx_law.specs.Worlds.{TwoEnds}
use Rattle.rx_model.proofs.NameLaws.{number_itself, same_number}
use Rattle.rx_history.proofs.ClientHistory.{client-calls}
use Rattle.rx_law.proofs.Hears.{heard_at}
use Rattle.rx_law.proofs.Joint.{not-both}
use Rattle.rx_law.proofs.Late.{FedLately, Timed, lately-before}
use Rattle.rx_law.proofs.Learns.{starts-new}
use Rattle.rx_history.proofs.Moments.{now-side}
use Rattle.rx_history.proofs.Laws.OnceLaw.{served}
use Rattle.rx_history.proofs.ServerStands.{server-stands}
use Rattle.rx_law.proofs.TimedClient.{client-timed}
use Rattle.rx_law.proofs.TimedServer.{asks-new, server-timed}
use Rattle.rx_law.proofs.World.{clients}

-- what holds of the times of a call after a joint history
abbrev pub TimedAt : TwoEnds → CallName → List Noted → Type 0
TimedAt x c h = Timed x c h (at_client x h) (at_server x h) (moment x.server h)

nothing-timed : (x : TwoEnds) (c : CallName) → TimedAt x c []
nothing-timed x c =
    record {
      used = 0;
      called = 0;
      heard = 0;
      recalls = record {
        before = omega arith;
        fours = tt;
        young = tt;
        held = λ is. absurd cc;
        busy =
            λ n is. absurd cc;
      };
      called_before = omega arith;
      heard_before = omega arith;
      since = λ t is. absurd cc;
      begun = λ is. absurd cc;
      gave = λ bytes m payload at gave. absurd gave;
      told = λ bytes m at gave. absurd gave;
    }

module _ (x : TwoEnds) (c : CallName) (e : Noted) (h : List Noted) where
  -- an event of neither end
  neither-timed : (e.node == x.client) ≡ false → (e.node == x.server) ≡ false → TimedAt x c h
      → Timed x c (e ∷ h) (at_client x h) (at_server x h) (moment x.server h)
  neither-timed out away k =
      record {
        used = k.used;
        called = k.called;
        heard = k.heard;
        recalls = k.recalls;
        called_before = k.called_before;
        heard_before = k.heard_before;
        since = λ t is. (let s = k.since t is in (inr s.0, s.1));
        begun = k.begun;
        gave = λ bytes m payload at gave reads chunk name. (
            elim gave as (λ g. (is_some (heard_at (at_client x h) c) ≡ true) × (suc at ≤ k.heard + 192000)) [
              | inl g ↦ absurd (not-here e.node x.client g.node_is out)
              | inr before ↦ k.gave bytes m payload at before reads chunk name
            ]);
        told = λ bytes m at gave reads name. (
            elim gave as (λ g. suc at ≤ k.used + LIFETIME_MS) [
              | inl g ↦ absurd (not-here e.node x.server g.node_is away)
              | inr before ↦ k.told bytes m at before reads name
            ]);
      }
    where
      not-here : (a b : ℕ) → a ≡ b → (a == b) ≡ false → ⊥
      not-here a b is out = (let same : (a == b) ≡ true = rw is (number_itself b) in absurd (cc (same, out)))

  step : FedLately x (e ∷ h) → connection_of c ≡ x.connection → 1 ≤ c.number → TimedAt x c h → (at_c at_s : Bool)
      → (e.node == x.client) ≡ at_c → (e.node == x.server) ≡ at_s
      → Legal x.client_setup (cond at_c (e.event ∷ side x.client h) (side x.client h))
      → Legal x.server_setup (cond at_s (e.event ∷ side x.server h) (side x.server h))
      → Timed x c (e ∷ h) (looks x.client_setup (cond at_c (e.event ∷ side x.client h) (side x.client h)))
      (looks x.server_setup (cond at_s (e.event ∷ side x.server h) (side x.server h)))
      (cond at_s (with_clock e.event (moment x.server h)) (moment x.server h))
  step f on some k true true here there lc ls = absurd (not-both x.client x.server e.node f.apart here there)
  step f on some k false false here there lc ls = neither-timed here there k
  step f on some k true false here there lc ls =
      let at = same_number e.node x.client here in
      let old = client-calls x.client_setup x.connection.host x.connection.epoch
      (side x.client h) f.client_kind f.client_fits lc.1 in
      client-timed x c on f.client_kind f.server_kind f.apart e h (at_client x h) (at_server x h)
      (moment x.server h) f.client_fits at
      (now-side x.client_setup x.client h) refl
      (clients x.client_setup x.connection.host x.connection.epoch
      (at_client x h) e.event f.client_kind lc.0) old.standing (old.sound c)
      (f.late.1 at) f.alike.0 k
  step f on some k false true here there lc ls =
      let at = same_number e.node x.server there in
      server-timed x c on f.client_kind f.server_kind f.apart e h (at_client x h) (at_server x h) (moment x.server h) at
      (now-side x.server_setup x.server h) refl
      (served x.server_setup.kind x.server_setup (at_server x h) e.event f.server_kind ls.0)
      (server-stands x.server_setup (side x.server h) f.server_kind f.server_fits ls.1).conns some (f.late.0 at) k

-- a call with a number, whose times hold
pub timed : (x : TwoEnds) (h : List Noted) (c : CallName) → FedLately x h → connection_of c ≡ x.connection
    → 1 ≤ c.number → TimedAt x c h
timed x [] c f on some = nothing-timed x c
timed x (e ∷ h) c f on some =
    step x c e h f on some (timed x h c (lately-before x e h f) on some) (e.node == x.client)
    (e.node == x.server) refl refl f.client_legal f.server_legal

-- a call without a number never starts
none-starts : (s : Setup) (l : Looks) (e : Event) (c : CallName) → c.number ≡ 0 → StartsNew s l e c
none-starts s l (events.Taken from bytes tooks.Kept) c none = λ m reads front name above. absurd
    (never _ c.number none above)
  where
    never : (a b : ℕ) → b ≡ 0 → nat_lt a b ≡ true → ⊥
    never a b is above = absurd (let low : suc a ≤ b = grind (arith, nat_tests) in omega arith)
none-starts s l (events.Taken from bytes tooks.NoSlot) c none = λ m reads front name above. absurd
    (never _ c.number none above)
  where
    never : (a b : ℕ) → b ≡ 0 → nat_lt a b ≡ true → ⊥
    never a b is above = absurd (let low : suc a ≤ b = grind (arith, nat_tests) in omega arith)
none-starts s l _ c none = tt

some-or-none : (n : ℕ) → (1 ≤ n) ⊎ (n ≡ 0)
some-or-none zero = inr refl
some-or-none (suc n) = inl (omega arith)

-- with each event no call starts anew
pub starts-once : (x : TwoEnds) (h : List Noted) (c : CallName) → FedLately x h → connection_of c ≡ x.connection
    → StartsOnce x.server_setup (side x.server h) c
starts-once x [] c f on = tt
starts-once x (e ∷ h) c f on = of (e.node == x.server) refl f.server_legal
    (starts-once x h c (lately-before x e h f) on)
  where
    starts : (e.node == x.server) ≡ true → Legal x.server_setup (e.event ∷ side x.server h)
        → StartsNew x.server_setup (at_server x h) e.event c
    starts here legal =
        (elim (some-or-none c.number) as (λ t. StartsNew x.server_setup (at_server x h) e.event c) [
          | inr none ↦ none-starts x.server_setup (at_server x h) e.event c none
          | inl some ↦ (
              let before = lately-before x e h f in
              let k = timed x h c before on some in
              let at = same_number e.node x.server here in
              let allowed = served x.server_setup.kind x.server_setup (at_server x h) e.event f.server_kind legal.0 in
              starts-new x.server_setup (at_server x h) e.event c k.used f.server_kind allowed
              (asks-new x c on f.client_kind f.server_kind f.apart e h (at_client x h) (at_server x h)
              (moment x.server h) at
              (now-side x.server_setup x.server h) refl allowed
              (server-stands x.server_setup (side x.server h) f.server_kind f.server_fits legal.1).conns some
              (f.late.0 at) k) k.recalls)
        ])

    of : (b : Bool) → (e.node == x.server) ≡ b → Legal x.server_setup
        (cond b (e.event ∷ side x.server h) (side x.server h))
        → StartsOnce x.server_setup (side x.server h) c → StartsOnce x.server_setup
        (cond b (e.event ∷ side x.server h) (side x.server h)) c
    of true here legal before = (starts here legal, before)
    of false here legal before = before
