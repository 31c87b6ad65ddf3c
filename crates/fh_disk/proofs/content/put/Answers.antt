use Rattle.std.proofs.Common.{◌≡◌, ◌+◌, ◌-◌, ◌++◌, ◌∙◌, length, replicate, ap, rules}
use Rattle.fh_disk.proofs.Zeros.{written_over}
use Rattle.fh_disk.proofs.content.put.Goals as goal

pub returns : goal.returns
returns c =
    let file = c.args.file.now.items in
    let end_is : c.in-Some.end ≡ c.args.at + length c.args.bytes.now = search rules in
    let long : c.lengthen.new.file.items ≡ file ++ replicate (c.in-Some.end - length file) 0 = search rules in
    c.overwrite.ensures ∙ written_over c.args.at c.args.bytes.now file c.lengthen.new.file.items
    (long ∙ ap (λ end. file ++ replicate (end - length file) 0) end_is)
