-- those so far did
use Rattle.std.proofs.Common.{◌≡◌, ◌-◌, ◌≤◌, drop}
use Rattle.std.specs.List.{list_all}
use Rattle.rx_load.specs.Loads.{all_ended, clients, has_ended}
use Rattle.rx_loader.specs.Showing.{Loads}
use Rattle.rx_loader.proofs.loading.Loading.all_ended.Given as goal

abbrev pub invariant-loop-client : goal.invariant-loop-client
invariant-loop-client l = record {
  from_one : 1 ≤ l.client;
  rest :
      Loads l.self
      (λ load. all_ended l.calls load ≡ list_all (has_ended l.calls load) (drop (l.client - 1) clients));
}
