use Rattle.std.proofs.Common.{◌≡◌, ℕ, List, ap, false, subst}
use Rattle.std.proofs.lemmas.Bool.{false_from_ne_true}
use Rattle.std.proofs.lemmas.Str.{IsUtf8-from_is_utf8}
use Rattle.std.specs.Str.{is_utf8}
use Rattle.rx_wire_loop.specs.Tells.{SinkTells}
use Rattle.rx_top.proofs.compile.compile_file.Goals as goal

pub returns-in_default-clause-compile : goal.returns-in_default-clause-compile
returns-in_default-clause-compile g c =
    let bytes = c.as_slice.result.now in
    let no_text : is_utf8 bytes ≡ false =
    false_from_ne_true (is_utf8 bytes) (λ e. c.in_default.ensures.cases.0 (IsUtf8-from_is_utf8 bytes e)) in (
      record {
        bytes = c.in-Ok.bytes.items;
        there = c.in-Ok.ensures.ok;
        no_text = subst (λ (b : List ℕ). is_utf8 b ≡ false) c.as_slice.ensures.value no_text;
      },
      ap (λ (s : SinkTells). s.put) c.in-Ok.ensures.only.out,
    )
