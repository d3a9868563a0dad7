-- Lemmas on a load whose text is put.
use Rattle.std.proofs.Common.{◌≡◌, ℕ, List, None}
use Rattle.rx_load.specs.declared.summary.Loaded.TheVariants as loads
use Rattle.rx_load.specs.declared.summary.Summary.{Summary}
use Rattle.rx_loader.specs.Loaded.{LoadIs, LoadKeeps}
use Rattle.rx_stage.specs.Tells.{told}
use Rattle.rx_top.specs.LoadLines.{HasText, summary_text}
use Rattle.rx_top.specs.Outside.{OnlyOut, Outside, plan_told}

-- behind the put of a text, a load still is the one that was made
pub text_put : (number calls : ℕ) (s : Summary) (a b c : Outside) (text : List ℕ)
    → LoadIs number calls (loads.Ran s) (told a.noted None 0) (told b.noted None 0)
    → LoadKeeps number calls (loads.Ran s) (told a.noted None 0) (told b.noted None 0) → OnlyOut b c
    → text ≡ summary_text s → HasText number calls (plan_told a) (plan_told c) text
text_put number calls s a b c text load promises only is =
    record {
      summary = s;
      makes = record { load = rw only.noted load; promises = rw only.noted promises };
      is = is;
    }
