-- An app: what host.json, the settings and the functions' files say, or the first fault in this order.
use Rattle.std.specs.Prelude.{ℕ, List, [], codes, Result, Ok}
use Rattle.fh_app.specs.declared.app.AppFiles.{AppFiles}
use Rattle.fh_app.specs.declared.app.App.{App}
use Rattle.fh_app.specs.declared.fault.AppFault.{AppFault}
use Rattle.fh_app.specs.declared.host.Host.{Host}
use Rattle.fh_app.specs.Answers.{after}
use Rattle.fh_app.specs.Host.{host_of}
use Rattle.fh_app.specs.Settings.{settings_file, settings_of}
use Rattle.fh_app.specs.Bindings.{Pairs}
use Rattle.fh_app.specs.Functions.{file_row, functions_behind}

unfoldable pub host_in : AppFiles → Result Host AppFault
host_in files = after (file_row (codes "host.json") files.host) host_of

unfoldable pub settings_in : AppFiles → Result Pairs AppFault
settings_in files = after (file_row settings_file files.settings) settings_of

unfoldable pub app_of : AppFiles → Result App AppFault
app_of files =
    after (host_in files) (λ host.
    after (settings_in files) (λ pairs.
    after (functions_behind pairs [] files.functions) (λ functions.
    Ok (record {
      functions = functions;
      queues = host.queues;
      handler = host.handler;
      settings = record { pairs = pairs };
      lock_seconds = host.lock_seconds;
    }))))
