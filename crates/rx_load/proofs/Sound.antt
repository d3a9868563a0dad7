-- Openings and rounds of a load leave a history sound.
use Rattle.std.proofs.Common.{ℕ, List, ◌∷◌, Option, Some, None}
use Rattle.rx_model.specs.declared.event.Event.{Event}
use Rattle.rx_model.specs.declared.event.Noted.{Noted}
use Rattle.rx_model.specs.declared.names.CallName.{CallName}
use Rattle.rx_history.specs.Sides.{Node}
use Rattle.rx_events.specs.Events.{IsCalled}
use Rattle.rx_wire.specs.Turns.{noted}
use Rattle.rx_script.specs.declared.outcome.PlanWhy.TheVariants as causes
use Rattle.rx_script.specs.declared.plan.PlanLine.TheVariants as lines
use Rattle.rx_plan.specs.Finds.{at_client, client_at, found_or}
use Rattle.rx_plan.specs.Lines.{IsInvoked, connects, invokes, with_called, with_caller}
use Rattle.rx_plan.specs.Parts.{To, Refused, Part}
use Rattle.rx_plan.specs.Stages.{Stage, name_called}
use Rattle.rx_plan.proofs.Soundness.Sound.{Good, Is, Safe, calm_by, calm_honest, ends_safe, event_with_safe}
use Rattle.rx_plan.proofs.Soundness.Sound.{is_next}
use Rattle.rx_plan.proofs.Soundness.SoundLines.{line_safe}
use Rattle.rx_load.specs.Loads.{load_handlers}

module _ (Honest : Type 0) (nodes : List Node) where
  -- ---- calls that are opened

  caller_is : (node line : ℕ) (bytes : List ℕ) (o : Option CallName) (h : List Noted) (s : Stage)
      → Is Honest nodes h s → Is Honest nodes h (with_caller node line bytes o s)
  caller_is node line bytes None h s i = i
  caller_is node line bytes (Some name) h s i = record { at = i.at; history = i.history; packets = i.packets }

  called_is : (node : ℕ) (e : Event) (h : List Noted) (s : Stage) → Is Honest nodes h s
      → Is Honest nodes h (with_called node e s)
  called_is node e h s i = record { at = i.at; history = i.history; packets = i.packets }

  invokes_safe : (line cid : ℕ) (bytes : List ℕ) (node : ℕ) (h : List Noted) (s : Stage) → Good Honest nodes h
      → Is Honest nodes h s → Safe Honest nodes (Is Honest nodes) h (invokes line cid bytes node s)
  invokes_safe line cid bytes node h s good i =
      event_with_safe Honest nodes h s node (IsInvoked cid bytes)
      (λ e t. To (with_caller node line bytes (name_called e) (with_called node e t))) good i
      (λ e there.
      calm_honest Honest nodes h node e (calm_by (IsCalled cid) (λ from datagram got no. no) e there.0))
      (λ e there.
      caller_is node line bytes (name_called e) (noted node e ∷ h) _
      (called_is node e (noted node e ∷ h) _ (is_next Honest nodes h s node e i)))

  found_safe : (next : ℕ → Stage → Part Stage) (o : Option ℕ) (h : List Noted) (s : Stage) → Good Honest nodes h
      → ((k : ℕ) → Safe Honest nodes (Is Honest nodes) h (next k s))
      → Safe Honest nodes (Is Honest nodes) h (found_or causes.NoNode next o s)
  found_safe next None h s good safe =
      ends_safe Honest nodes (Is Honest nodes) h (Refused causes.NoNode) good tt
  found_safe next (Some k) h s good safe = safe k

  pub opened_safe : (client line cid : ℕ) (bytes : List ℕ) (h : List Noted) (s : Stage) → Good Honest nodes h
      → Is Honest nodes h s
      → Safe Honest nodes (Is Honest nodes) h (at_client client (invokes line cid bytes) s)
  opened_safe client line cid bytes h s good i =
      found_safe (invokes line cid bytes) (client_at client s) h s good
      (λ k. invokes_safe line cid bytes k h s good i)

  -- ---- connections

  pub connected_safe : (client : ℕ) (h : List Noted) (s : Stage) → Good Honest nodes h → Is Honest nodes h s
      → Safe Honest nodes (Is Honest nodes) h (at_client client (connects 1) s)
  connected_safe client h s good i =
      line_safe Honest nodes load_handlers 0 (lines.Connect client 1) h s (λ honest. tt) good i
