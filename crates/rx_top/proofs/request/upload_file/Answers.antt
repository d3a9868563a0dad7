use Rattle.std.proofs.Common.{rules, ◌≡◌, ◌++◌, [], ◌∷◌, refl}
use Rattle.rx_top.proofs.UploadLemmas.{sent_upload}
use Rattle.rx_top.proofs.request.upload_file.Goals as goal

pub returns-in-Ok-clause-ok : goal.returns-in-Ok-clause-ok
returns-in-Ok-clause-ok g c =
    let grown : c.extend_from_slice.new.self.items ≡ c.args.request.items ++ (0 ∷ 0 ∷ 0 ∷ 0 ∷ []) =
    search (rules, c.extend_from_slice.ensures.items) in
    sent_upload (g.X.Surroundings.told c.args.x.now).files.contents c.args.name.now (0 ∷ 0 ∷ 0 ∷ 0 ∷ [])
    c.in-Ok.bytes.items c.args.request c.extend_from_slice.new.self c.len-at.result c.uploaded.result
    (search (rules, c.len-at.ensures)) refl grown c.in-Ok.ensures.front c.in-Ok.ensures.ok c.uploaded.ensures.ok
