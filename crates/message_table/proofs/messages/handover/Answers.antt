use Rattle.std.proofs.Common.{◌++◌, List, ℕ, codes, ap}
use Rattle.message_table.specs.Messages.{content_text, file_text}
use Rattle.message_table.proofs.Pieces.{three_written}
use Rattle.message_table.proofs.messages.handover.Goals as goal

pub returns : goal.returns
returns c =
    let file = file_text c.args.labels.now.files c.args.file.now in
    three_written c.content.result c.args.text.now _ _ _ (codes "Handover") file (content_text c.as_slice.result.now)
    (codes "Handover" ++ (file ++ content_text c.args.bytes.now)) c.in_ok-put.ensures c.in_ok-put_file.ensures
    (ap (λ (bytes : List ℕ). codes "Handover" ++ (file ++ content_text bytes)) c.as_slice.ensures.value) c.content.ensures
