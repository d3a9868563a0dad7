-- The numbers of the two ends of a call within their fields.
use Rattle.std.proofs.Common.{◌<◌, ◌≤◌, ◌^◌, ℕ, false, List, refl, length, arith}
use Rattle.rx_model.specs.Spelling.{IsPlain}
use Rattle.rx_rules.specs.CallLooks.{CallLooks, fresh_call}
use Rattle.rx_rounds.proofs.Keys.KeyClass.{index_small}
use Rattle.rx_rounds.proofs.One.OneCall.{Ends}
use Rattle.rx_rounds.proofs.One.OneSteps.{data_of}

-- a call at its start, with the default window
abbrev pub fresh : CallLooks
fresh = fresh_call (record { window = 32; prompt = false }) 0

-- numbers within their fields
pub record FitsEnds (x : Ends) : Type 0 where
  pub epoch : x.epoch < 2 ^ 32
  pub service : x.service < 2 ^ 16
  pub some : 1 ≤ x.first
  pub first : x.first < 2 ^ 32

-- a piece can be written
pub plain_data : (x : Ends) (seq serial flags : ℕ) (said : List ℕ) → FitsEnds x → length said ≤ 1412 → seq < 2 ^ 32
    → serial < 2 ^ 32 → flags < 8
    → IsPlain (data_of x seq serial flags said)
plain_data x seq serial flags said fits short low small few =
    record {
      epoch = fits.epoch;
      cid = omega arith;
      number = fits.first;
      seq = low;
      serial = small;
      flags = few;
      status = refl;
      index = index_small x.key;
      spare = refl;
      service = fits.service;
      body = omega arith;
    }
