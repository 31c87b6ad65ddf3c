use Rattle.std.proofs.Common.{◌≡◌, ◌∙◌, ℕ, List, [], refl}
use Rattle.std.specs.Prelude.{Option, codes}
use Rattle.fh_exprs.specs.Pairs.{text_at}
use Rattle.fh_app.specs.declared.app.AppFiles.{AppFiles}
use Rattle.fh_app.specs.Folders.{Files, folders_of, function_files_behind, app_files}
use Rattle.fh_app.proofs.app.AppFiles.load.Goals as goal

made : (told : Files) (host settings : Option (List ℕ)) (names : List (List ℕ)) (functions : Files)
    → host ≡ text_at (codes "host.json") told → settings ≡ text_at (codes "local.settings.json") told
    → names ≡ folders_of told → functions ≡ function_files_behind told [] names
    → (let found : AppFiles = record { host = host; settings = settings; functions = functions } in
    found ≡ app_files told)
unfolding app_files
made told host settings names functions h s n f = rw (h, s, f, n) refl

pub returns-clause-files : goal.returns-clause-files
returns-clause-files g c = λ told is.
    let once = c.in_ok-host.ensures.same ∙ is in
    let twice = c.in_ok-settings.ensures.same ∙ once in
    made told _ _ c.deref.result.now _ (c.in_ok-host.ensures.bytes told is) (c.in_ok-settings.ensures.bytes told once)
    (c.deref.ensures.value ∙ c.in_ok-names.ensures.names told twice)
    (c.in_ok-functions.ensures.files told (c.in_ok-names.ensures.same ∙ twice))
