use Rattle.std.proofs.Common.{◌∙◌, ◌%◌, ◌+◌, ◌-◌, Some, None, ℕ, ap, refl, set, subst}
use Rattle.rand_pcg.specs.Lcg.{Lcg}
use Rattle.rand_pcg.specs.Pcg.{pcg32}
use Rattle.rx_load.specs.Loads.{body_length}
use Rattle.rx_plan.specs.Finds.{at_client}
use Rattle.rx_plan.specs.Lines.{invokes}
use Rattle.rx_stage.specs.Shown.{Plays}
use Rattle.rx_stage.specs.Tells.{told}
use Rattle.rx_loader.specs.declared.loading.Loading.{Loading}
use Rattle.rx_loader.proofs.Opened.{opened, opening_stops, opening_wants}
use Rattle.rx_loader.proofs.loading.Loading.open.Goals as goal

pub returns-in_err-bytes-clause-plays : goal.returns-in_err-bytes-clause-plays
returns-in_err-bytes-clause-plays g c =
    opening_wants c.args.client c.args.self.now _ c.from_residual.result _ c.from_residual.ensures

pub returns-in_err-invoke_line-clause-plays : goal.returns-in_err-invoke_line-clause-plays
returns-in_err-invoke_line-clause-plays g c =
    opening_stops c.args.client c.next_call-number.result _ c.in_ok-bytes.bytes.items c.next_word.new.self
    c.args.self.now _ c.invoke_line.new.self c.from_residual-in_err-invoke_line.result c.in_err-invoke_line.field-0.0
    _ _
    (record {
      at = c.next_call-number.ensures;
      long = ap (λ (r : ℕ × Lcg). r.0 % 4097) c.next_word.ensures
          ∙ ap (λ (v : Loading). body_length (pcg32 v.network.words).0) c.self.view_is;
      drawn = ap (λ (r : ℕ × Lcg). r.1) c.next_word.ensures ∙ ap (λ (v : Loading). (pcg32 v.network.words).1)
          c.self.view_is;
      said = c.in_ok-bytes.ensures;
    })
    (subst (λ (v : Loading). Plays (at_client c.args.client (invokes c.next_call-number.result 4
    c.in_ok-bytes.bytes.items)) v.world c.invoke_line.new.self (Some c.in_err-invoke_line.field-0.0)
    (told (g.J.Journal.told c.args.book.now) None 0) (told (g.J.Journal.told c.invoke_line.new.book) None 0))
    c.self.view_is c.in_err-invoke_line.ensures.plays) c.from_residual-in_err-invoke_line.ensures

pub returns-clause-plays : goal.returns-clause-plays
returns-clause-plays g c =
    opened c.args.client c.next_call-number.result _ c.in_ok-bytes.bytes.items c.next_word.new.self c.args.self.now _ _
    _
    (record {
      at = c.next_call-number.ensures;
      long = ap (λ (r : ℕ × Lcg). r.0 % 4097) c.next_word.ensures
          ∙ ap (λ (v : Loading). body_length (pcg32 v.network.words).0) c.self.view_is;
      drawn = ap (λ (r : ℕ × Lcg). r.1) c.next_word.ensures ∙ ap (λ (v : Loading). (pcg32 v.network.words).1)
          c.self.view_is;
      said = c.in_ok-bytes.ensures;
    })
    (subst (λ (v : Loading). Plays (at_client c.args.client (invokes c.next_call-number.result 4
    c.in_ok-bytes.bytes.items)) v.world c.invoke_line.new.self None (told (g.J.Journal.told c.args.book.now) None 0)
    (told (g.J.Journal.told c.invoke_line.new.book) None 0)) c.self.view_is c.in_ok-invoke_line.ensures.plays)
    (record {
      drawn = refl;
      held = ap (λ (v : Loading). v.network.held.items) c.self.view_is;
      next = c.put_at-2.ensures
          ∙ ap (λ (v : Loading). set v.next.items (c.args.client - 1) (c.next_call-number.result + 4)) c.self.view_is;
      bodies = c.put_at.ensures
          ∙ ap (λ (v : Loading). set v.bodies.items c.next_call-number.result (c.next_word.result % 4097))
          c.self.view_is;
      rounds = ap (λ (v : Loading). v.rounds) c.self.view_is;
      tally = ap (λ (v : Loading). v.network.tally) c.self.view_is;
    })
