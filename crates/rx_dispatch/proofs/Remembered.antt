-- Arguments that are remembered of a request while it is read.
use Rattle.std.proofs.Common.{◌++◌, ◌∙◌, ℕ, false, List, length, Option, Some, None, sym, subst}
use Rattle.hex.specs.Hex.{IsBytes}
use Rattle.stub_table.specs.Requests.{RequestAnswer, request_answer}
use Rattle.rx_jobs.specs.Handlers.{Handlers, answer_to}
use Rattle.rx_jobs.specs.Keeping.{kept_of}
use Rattle.rx_jobs.proofs.KeptLaws.{kept_answer}
use Rattle.rx_jobs.proofs.RequestStays.{AnswerStays, request_stays}
use Rattle.rx_dispatch.specs.Desks.{IsRemembered}
use Rattle.rx_dispatch.specs.declared.deciding.Found.{Found}

-- arguments that are remembered are those of more bytes too
pub remembered_more : (g : Handlers) (request y : List ℕ) (found : Option Found) → IsBytes y
    → IsRemembered g request found → IsRemembered g (request ++ y) found
unfolding answer_to
remembered_more g request y None fits is = tt
remembered_more g request y (Some f) fits is = record {
  args = is.args;
  is = (subst (λ (a : RequestAnswer).
      AnswerStays (length request) a (request_answer g.types g.procs (request ++ y) false)) is.is
      (request_stays g.types g.procs request y false fits)).0;
}

-- arguments that are remembered of it are those of the request, and the other way round
pub remembered_kept : (g : Handlers) (r : List ℕ) (found : Option Found) → IsRemembered g r found
    → IsRemembered g (kept_of g r) found
remembered_kept g r None is = tt
remembered_kept g r (Some f) is = record { args = is.args; is = kept_answer g r false ∙ is.is }

pub remembered_whole : (g : Handlers) (r : List ℕ) (found : Option Found) → IsRemembered g (kept_of g r) found
    → IsRemembered g r found
remembered_whole g r None is = tt
remembered_whole g r (Some f) is = record { args = is.args; is = sym (kept_answer g r false) ∙ is.is }
