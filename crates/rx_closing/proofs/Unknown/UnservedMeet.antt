-- What a stage says of the two ends of one of its calls: the server's kind, where the call's datagrams go, that both
-- ends meet, and that a call of the client that lives is calling.
use Rattle.std.proofs.Common.{◌≡◌, ℕ, suc, true, Option, Some, None, refl}
use Rattle.rx_model.specs.declared.names.CallName.{CallName}
use Rattle.rx_rules.specs.Life.{Life, is_live}
use Rattle.rx_rules.specs.Life as lives
use Rattle.rx_rules.specs.Looks.{CallRecord, is_call, Looks}
use Rattle.rx_rules.specs.Setup.{Kind, Server}
use Rattle.rx_history.specs.Sides.{Node, side}
use Rattle.rx_asks.specs.History.{IsCalled}
use Rattle.rx_plan.specs.Stages.{Stage}
use Rattle.rx_plan.proofs.ClientEnds.{IsCalledOr, calls_called}
use Rattle.rx_closing.specs.Living.{call_lives_at}
use Rattle.rx_closing.proofs.Far.FarStands.{scene_fed}
use Rattle.rx_closing.proofs.Frame.{OneOf, asked_in}
use Rattle.rx_closing.proofs.Owing.OwesNone.{OwesNone, none_owed}
use Rattle.rx_closing.proofs.Polls.Bare.{Bare}

-- ---- nothing owed

-- what owes nothing beside what calls give is bare
pub bare_of : (l : Looks) → OwesNone l → Bare l
bare_of l owes =
    record {
      strays = owes.strays;
      channels = λ ch. (let quiet = none_owed l ch owes in
          record {
            abort = quiet.abort;
            busy = quiet.busy;
            challenge = quiet.challenge;
            response = quiet.response;
            ackall = quiet.ackall;
          });
    }

-- ---- the server

-- the service of a server
pub record ServiceOf (kind : Kind) : Type 0 where
  pub service : ℕ
  pub nonces : ℕ
  pub is : kind ≡ Server service nonces

-- ---- the server

-- the call at its client, calling
pub record IsAsked (c : CallName) (k : ℕ) (client : Node) (s : Stage) : Type 0 where
  pub call : CallRecord
  pub there : asked_in c k client s ≡ Some call
  pub calling : call.life ≡ lives.Calling

module _ (c : CallName) (k : ℕ) (client server : Node) (s : Stage) (scene : OneOf c k client server s) where
  -- ---- the client

  called_calling : (x : Life) → IsCalled x → is_live x ≡ true → x ≡ lives.Calling
  called_calling lives.Calling called living = refl
  called_calling (lives.Ended end) called living = absurd cc
  called_calling _ called living = absurd called

  pub scene_asked : call_lives_at s c (suc k) client ≡ true → IsAsked c k client s
  scene_asked living = of (asked_in c k client s) refl living called
    where
      called : IsCalledOr (asked_in c k client s)
      called =
          calls_called client.setup c.host c.epoch scene.client_is (scene_fed c k client server s scene).client_fits
          (side (suc k) s.history) c (scene_fed c k client server s scene).client_legal

      of : (o : Option CallRecord) → asked_in c k client s ≡ o → is_call (λ r. is_live r.life) o ≡ true → IsCalledOr o
          → IsAsked c k client s
      of None is lives_ called_ = absurd cc
      of (Some r) is lives_ called_ =
          record { call = r; there = is; calling = called_calling r.life called_ lives_ }
