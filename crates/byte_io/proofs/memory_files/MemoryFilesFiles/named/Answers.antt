use borrow.Author.Rules.{rules}
use Rattle.std.proofs.Common.{◌≡◌, ◌∙◌, List, Option, ap, subst}
use Rattle.std.specs.Prelude.{option_map}
use Rattle.std.specs.Option.{IfSome}
use Rattle.std.specs.Result.{IfOk}
use Rattle.byte_io.specs.Files.{file_at}
use Rattle.byte_io.specs.declared.memory_files.NamedFile.{NamedFile}
use Rattle.byte_io.proofs.memory_files.MemoryFilesFiles.named.Goals as goal

pub returns-in-Some-clause-bytes : goal.returns-in-Some-clause-bytes
returns-in-Some-clause-bytes c =
    let found = c.in-Some.ensures ∙ ap (λ (files : List NamedFile). file_at files c.args.path.now) c.as_slice.ensures.value in
    subst (λ (known : Option NamedFile). IfOk c.copied.result (λ bytes. IfSome (option_map (λ file. file.bytes.items) known) (λ known. bytes.items ≡ known))) found
    (rw c.as_slice-in-Some.ensures.value at c.copied.ensures.same)

pub returns-in-Some-clause-first : goal.returns-in-Some-clause-first
returns-in-Some-clause-first c =
    let found = c.in-Some.ensures ∙ ap (λ (files : List NamedFile). file_at files c.args.path.now) c.as_slice.ensures.value in
    subst (λ (known : Option NamedFile). IfOk c.copied.result (λ bytes. IfSome known (λ file. bytes.items ≡ file.bytes.items))) found
    (rw c.as_slice-in-Some.ensures.value at c.copied.ensures.same)

pub returns-in-Some-clause-input : goal.returns-in-Some-clause-input
returns-in-Some-clause-input c = search rules

pub returns-in-Some-clause-files : goal.returns-in-Some-clause-files
returns-in-Some-clause-files c = search rules

pub returns-in-Some-clause-unchanged : goal.returns-in-Some-clause-unchanged
returns-in-Some-clause-unchanged c = search rules

pub returns-in-Some-clause-within : goal.returns-in-Some-clause-within
returns-in-Some-clause-within c = search rules

pub returns-in-Some-clause-too_large : goal.returns-in-Some-clause-too_large
returns-in-Some-clause-too_large c = search rules

pub returns-in-Some-clause-absent : goal.returns-in-Some-clause-absent
returns-in-Some-clause-absent c = search rules

pub returns-in-Some-clause-io : goal.returns-in-Some-clause-io
returns-in-Some-clause-io c = search rules

pub returns-in-None : goal.returns-in-None
returns-in-None c = search rules
