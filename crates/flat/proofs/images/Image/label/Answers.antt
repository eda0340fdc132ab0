use Rattle.std.proofs.Common.{length, refl, ap, ◌∙◌, arith}
use Rattle.std.proofs.lemmas.Slice.{put_mid-paste}
use Rattle.flat.proofs.Edits.{record_slice, put_record, length-labelled}
use Rattle.flat.specs.RecordLaws.{length-record_at}
use Rattle.flat.specs.Images.{record_at}
use Rattle.flat.specs.Records.{labelled}
use Rattle.flat.proofs.images.Image.label.Goals as goal

pub returns-clause-bytes : goal.returns-clause-bytes
unfolding labelled
returns-clause-bytes c =
    let im = c.args.self.now in
    let r = c.args.r in
    let path = c.args.path.now in
    let rec = record_at im.bytes.items im.limit r in
    let is = record_slice im.bytes.items im.limit im.shape r c.requires.low _ c.deref_mut.ensures.value in
    let long = length-labelled rec path (omega (arith, length-record_at im.bytes.items im.limit r, c.requires.short, im.shape.least)) ∙ length-record_at im.bytes.items im.limit r in
    let new = put_mid-paste 1 _ _ _ path (length path) c.copy_from_slice.ensures.after (omega arith) refl ∙ ap (λ xs. labelled xs path) is in
    rw (c.span-span.ensures.start, c.span-span.ensures.end) (put_record im.bytes.items im.limit im.shape r c.requires.low (labelled rec path) long im.bytes _ _ refl c.deref_mut.ensures.value new)
