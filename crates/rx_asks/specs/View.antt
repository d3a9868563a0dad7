-- What a contract sees of a caller. Public clauses cite this module.
use Rattle.std.specs.Prelude.{ℕ, Bool, false, List, [], Option, None}
use Rattle.rx_model.specs.declared.answers.End.{End}
use Rattle.rx_model.specs.declared.names.CallName.{CallName}
use Rattle.rx_asks.specs.declared.ask.Phase.{Phase}
use Rattle.rx_asks.specs.declared.ask.Phase.TheVariants as phases

-- the node for which its events are noted; its call; the bytes of its request that are still to be offered; whether it
-- shut; the bytes read; the end of its call, once it is finished; where its turn stands
pub record CallerState : Type 0 where
  pub call : CallName
  pub offering : List ℕ
  pub shut : Bool
  pub reply : List ℕ
  pub end : Option End
  pub phase : Phase

-- a caller for a call, which has said and read nothing of it
abbrev pub caller_for : CallName → List ℕ → CallerState
caller_for c request =
    record {
      call = c;
      offering = request;
      shut = false;
      reply = [];
      end = None;
      phase = phases.Resting;
    }
