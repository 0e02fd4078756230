use Rattle.std.proofs.Common.{◌≡◌, ◌++◌, List, ℕ, length, ap, ◌∙◌}
use Rattle.course_picture.specs.declared.course.Part.{Part}
use Rattle.svg_text.specs.Document.{document}
use Rattle.trace_text.specs.Traces.{PlainTrace, plain_trace}
use Rattle.trace_check.specs.declared.verdict.Verdict.{Verdict}
use Rattle.trace_picture.specs.Picture.{whole_picture, whole_size}
use Rattle.trace_picture.specs.Window.{after, window}
use Rattle.trace_picture.proofs.drawing.picture.Goals as goal

pub returns : goal.returns
returns c =
    let t : PlainTrace = plain_trace c.args.trace.now in
    let v : Verdict = c.args.verdict in
    let from : ℕ = c.args.from in
    let n : ℕ = c.args.entries in
    let len : c.len-len.result ≡ length t.entries = c.len-len.ensures in
    let p : Part = window v (length t.entries) from n in
    let part : c.window-part.result ≡ p = c.window-part.ensures.window ∙ ap (λ (k : ℕ). window v k from n) len in
    let shown : c.after-shown.result ≡ after v (length t.entries) from n =
    c.after-shown.ensures.after from n c.window-part.ensures.window ∙ ap (λ (k : ℕ). after v k from n) len in
    c.into_frame.ensures ∙ c.in_ok-put_document.ensures
    ∙ ap (λ (text : List ℕ). text ++ document (whole_size t.nodes c.window-part.result) (whole_picture t v c.window-part.result c.after-shown.result))
    c.new-text.ensures
    ∙ ap (λ (q : Part). document (whole_size t.nodes q) (whole_picture t v q c.after-shown.result)) part
    ∙ ap (λ (s : ℕ). document (whole_size t.nodes p) (whole_picture t v p s)) shown
