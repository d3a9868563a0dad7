-- A loop over channels, of each of which the latest call changes.
use Rattle.std.proofs.Common.{◌≡◌, ◌≤◌, ◌<◌, ◌+◌, ◌*◌, ◌/◌, ◌%◌, ℕ, suc, List, length}
use Rattle.std.proofs.Common.{Some, refl, sym, subst, arith, if◌then◌else◌}
use Rattle.std.specs.Prelude.{slice_get}
use Rattle.rx_model.specs.Names.{Channel, connection_of, same_connection}
use Rattle.rx_rules.specs.Classes.{Class}
use Rattle.rx_rules.specs.Looks.{CallRecord, ConnLooks, Looks, latest_name, on_call, on_calls}
use Rattle.rx_node.specs.Mirrors.{IsChannel, Mirrors, channel_in}
use Rattle.rx_node.specs.Node.{NodeState, setup_of}
use Rattle.rx_node.proofs.CallLoops.{OfLive, change_among, loop_next, loop_start}
use Rattle.rx_node.proofs.LoopEnds.{loop_conn}
use Rattle.rx_node.proofs.Steps.TableSteps.{get_some}

module _ (class : List ℕ → Class) (base : NodeState) (l : Looks) (m : Mirrors class base l)
    (f : CallRecord → CallRecord) (of_live : OfLive f) where
  -- the look-ups where the calls on some channels changed
  abbrev pub among_changed : ℕ → ℕ → Looks
  among_changed low high = on_calls (change_among low high f l) l

  -- before the first
  pub among_first : (low high : ℕ) → high ≡ low → Mirrors class base (among_changed low high)
  among_first low high same =
      subst (λ (n : ℕ). Mirrors class base (among_changed low n)) (sym same)
      (subst (λ (x : Looks). Mirrors class base x)
      (sym (loop_start (setup_of class base) l m.orderly m.roomy.differ m.numbered f of_live low)) m)

  -- one more
  pub among_more : (next : NodeState) (low key more : ℕ) → low ≤ key → key / 4 < length base.table.conns
      → more ≡ key + 1
      → ((ch : Channel) → IsChannel (among_changed low key) key ch
      → Mirrors class next (on_call (latest_name l ch) f (among_changed low key)))
      → Mirrors class next (among_changed low more)
  among_more next low key more within here one steps =
      (let place : key / 4 < length l.conns = (let same = m.conns.conns in omega arith) in
      let x = get_some l.conns (key / 4) place in
      let ch : Channel = channel_in x.0 (key % 4) in
      subst (λ (n : ℕ). Mirrors class next (among_changed low n)) (let is : suc key ≡ more = omega arith in is)
      (subst (λ (y : Looks). Mirrors class next y)
      (loop_next (setup_of class base) l m.orderly m.roomy.differ m.numbered f of_live low key ch within
      (record { conn = x.0; there = x.1; is = refl }))
      (steps ch (record { conn = x.0; there = x.1; is = refl }))))

  -- behind the last of a connection
  pub among_conn : (next : NodeState) (place high : ℕ) (x : ConnLooks) → slice_get l.conns place ≡ Some x
      → high ≡ 4 * place + 4 → Mirrors class next (among_changed (4 * place) high)
      → Mirrors class next (on_calls (λ k. if same_connection (connection_of k.name) x.connection then f k else k) l)
  among_conn next place high x there end done =
      subst (λ (y : Looks). Mirrors class next y)
      (loop_conn (setup_of class base) l m.orderly m.roomy.differ m.numbered f of_live place x there)
      (subst (λ (n : ℕ). Mirrors class next (among_changed (4 * place) n)) end done)
