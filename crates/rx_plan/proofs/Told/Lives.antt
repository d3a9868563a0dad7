-- The code that a call's life tells stays one of some codes through each step that brings no other.
use Rattle.std.proofs.Common.{◌≡◌, ℕ, ℤ, Bool, true, false, Some, refl, subst}
use Rattle.rx_model.specs.declared.wire.TheConstants.{RX_CALL_DEAD}
use Rattle.rx_rules.specs.After.{told_code}
use Rattle.rx_rules.specs.Life.{Life, after_accept, after_acks, after_cancel, after_code, after_end, after_finish}
use Rattle.rx_rules.specs.Life.{after_gone, after_later, after_silence}
use Rattle.rx_rules.specs.Life as lives

module _ (K : ℤ → Type 0) where
  -- its code is one of these
  abbrev pub Tells : Life → Type 0
  Tells x = (code : ℤ) → told_code x ≡ Some code → K code

  same_code : (a b : ℤ) → Some a ≡ Some b → K a → K b
  same_code a b is k = subst K (let one : a ≡ b = cc in one) k

  pub tells_code : (told : ℤ) → K told → (x : Life) → Tells x → Tells (after_code told x)
  tells_code told k lives.Calling t code is = absurd cc
  tells_code told k (lives.Ended end) t code is = t code is
  tells_code told k lives.Waiting t code is = same_code told code is k
  tells_code told k lives.Accepted t code is = same_code told code is k
  tells_code told k lives.Finished t code is = same_code told code is k
  tells_code told k (lives.Broken before) t code is = t code is
  tells_code told k (lives.Over before) t code is = t code is

  pub tells_silence : (n : ℕ) → K RX_CALL_DEAD → (x : Life) → Tells x → Tells (after_silence n x)
  tells_silence n k lives.Calling t code is = absurd cc
  tells_silence n k (lives.Ended end) t code is = t code is
  tells_silence n k lives.Waiting t code is = same_code RX_CALL_DEAD code is k
  tells_silence n k lives.Accepted t code is = same_code RX_CALL_DEAD code is k
  tells_silence n k lives.Finished t code is = same_code RX_CALL_DEAD code is k
  tells_silence n k (lives.Broken before) t code is = t code is
  tells_silence n k (lives.Over before) t code is = t code is

  pub tells_later : K RX_CALL_DEAD → (x : Life) → Tells x → Tells (after_later x)
  tells_later k lives.Waiting t code is = same_code RX_CALL_DEAD code is k
  tells_later k lives.Finished t code is = absurd cc
  tells_later k lives.Calling t code is = t code is
  tells_later k (lives.Ended end) t code is = t code is
  tells_later k lives.Accepted t code is = t code is
  tells_later k (lives.Broken before) t code is = t code is
  tells_later k (lives.Over before) t code is = t code is

  pub tells_acks : (all : Bool) (x : Life) → Tells x → Tells (after_acks all x)
  tells_acks true lives.Finished t code is = absurd cc
  tells_acks false lives.Finished t code is = absurd cc
  tells_acks all lives.Waiting t code is = t code is
  tells_acks all lives.Calling t code is = t code is
  tells_acks all (lives.Ended end) t code is = t code is
  tells_acks all lives.Accepted t code is = t code is
  tells_acks all (lives.Broken before) t code is = t code is
  tells_acks all (lives.Over before) t code is = t code is

  pub tells_accept : (x : Life) → Tells x → Tells (after_accept x)
  tells_accept lives.Waiting t code is = absurd cc
  tells_accept lives.Finished t code is = t code is
  tells_accept lives.Calling t code is = t code is
  tells_accept (lives.Ended end) t code is = t code is
  tells_accept lives.Accepted t code is = t code is
  tells_accept (lives.Broken before) t code is = t code is
  tells_accept (lives.Over before) t code is = t code is

  pub tells_finish : (fine : Bool) (told : ℤ) → (fine ≡ false → K told) → (x : Life) → Tells x
      → Tells (after_finish fine told x)
  tells_finish true told k lives.Accepted t code is = absurd cc
  tells_finish false told k lives.Accepted t code is = same_code told code is (k refl)
  tells_finish true told k lives.Waiting t code is = t code is
  tells_finish true told k lives.Finished t code is = t code is
  tells_finish true told k lives.Calling t code is = t code is
  tells_finish true told k (lives.Ended end) t code is = t code is
  tells_finish true told k (lives.Broken before) t code is = t code is
  tells_finish true told k (lives.Over before) t code is = t code is
  tells_finish false told k lives.Waiting t code is = t code is
  tells_finish false told k lives.Finished t code is = t code is
  tells_finish false told k lives.Calling t code is = t code is
  tells_finish false told k (lives.Ended end) t code is = t code is
  tells_finish false told k (lives.Broken before) t code is = t code is
  tells_finish false told k (lives.Over before) t code is = t code is

  pub tells_gone : (x : Life) → Tells x → Tells (after_gone x)
  tells_gone (lives.Broken before) t code is = t code is
  tells_gone lives.Waiting t code is = t code is
  tells_gone lives.Finished t code is = t code is
  tells_gone lives.Calling t code is = t code is
  tells_gone (lives.Ended end) t code is = t code is
  tells_gone lives.Accepted t code is = t code is
  tells_gone (lives.Over before) t code is = t code is

  pub tells_end : (end : Bool) (x : Life) → Tells x → Tells (after_end end x)
  tells_end true lives.Calling t code is = absurd cc
  tells_end false lives.Calling t code is = t code is
  tells_end true (lives.Broken before) t code is = t code is
  tells_end true lives.Waiting t code is = t code is
  tells_end true lives.Finished t code is = t code is
  tells_end true (lives.Ended end) t code is = t code is
  tells_end true lives.Accepted t code is = t code is
  tells_end true (lives.Over before) t code is = t code is
  tells_end false (lives.Broken before) t code is = t code is
  tells_end false lives.Waiting t code is = t code is
  tells_end false lives.Finished t code is = t code is
  tells_end false (lives.Ended end) t code is = t code is
  tells_end false lives.Accepted t code is = t code is
  tells_end false (lives.Over before) t code is = t code is

  pub tells_cancel : (told : ℤ) → K told → (x : Life) → Tells x → Tells (after_cancel told x)
  tells_cancel told k lives.Calling t code is = same_code told code is k
  tells_cancel told k (lives.Ended end) t code is = t code is
  tells_cancel told k lives.Waiting t code is = t code is
  tells_cancel told k lives.Accepted t code is = t code is
  tells_cancel told k lives.Finished t code is = t code is
  tells_cancel told k (lives.Broken before) t code is = t code is
  tells_cancel told k (lives.Over before) t code is = t code is
