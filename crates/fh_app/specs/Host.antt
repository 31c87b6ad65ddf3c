-- host.json: its table, row by row.
use Rattle.std.specs.Prelude.{ℕ, ◌-◌, ◌/◌, ◌^◌, Bool, List, [], codes, Option, Some, None, option_map, Result, Ok, Err}
use Rattle.serde_json.specs.Data.{Data}
use Rattle.fh_app.specs.declared.fault.AppFault.{AppFault}
use Rattle.fh_app.specs.declared.host.Handler.{Handler}
use Rattle.fh_app.specs.declared.host.QueueSettings.{QueueSettings}
use Rattle.fh_app.specs.declared.host.Host.{Host}
use Rattle.fh_app.specs.Answers.{after}
use Rattle.fh_app.specs.Kinds.{text, filled_text, is_text, truth, number_in, encoding, duration_in}
use Rattle.fh_app.specs.Rows.{row, at, needed, texts_row}

abbrev pub in_host : {T : Type 0} → Data → List ℕ → (Data → Option T) → Option T → Result T AppFault
in_host host path kind default = row kind default (codes "host.json") path (at path host)

unfoldable pub path_row : Data → Result (List ℕ) AppFault
path_row host = in_host host (codes "customHandler.description.defaultExecutablePath") filled_text None

unfoldable pub directory_row : Data → Result (List ℕ) AppFault
directory_row host = in_host host (codes "customHandler.description.workingDirectory") text (Some [])

unfoldable pub arguments_row : Data → Result (List (List ℕ)) AppFault
arguments_row host = texts_row (codes "host.json") (codes "customHandler.description.arguments")
    (at (codes "customHandler.description.arguments") host)

unfoldable pub forwarding_row : Data → Result Bool AppFault
forwarding_row host = in_host host (codes "customHandler.enableForwardingHttpRequest") truth (Some Bool.false)

unfoldable pub handler_of : Data → Result Handler AppFault
handler_of host =
    after (path_row host) (λ path.
    after (directory_row host) (λ directory.
    after (arguments_row host) (λ arguments.
    after (forwarding_row host) (λ forwarding.
    Ok (record { path = path; directory = directory; arguments = arguments; forwarding = forwarding })))))

-- a week in milliseconds
abbrev pub week : ℕ
week = 604800000

unfoldable pub queue_settings_of : Data → Result QueueSettings AppFault
queue_settings_of host =
    after (in_host host (codes "extensions.queues.batchSize") (number_in 1 32) (Some 16)) (λ batch.
    after (in_host host (codes "extensions.queues.newBatchThreshold") (number_in 0 1000) (Some (batch / 2)))
    (λ threshold.
    after (in_host host (codes "extensions.queues.maxDequeueCount") (number_in 1 1000) (Some 5)) (λ limit.
    after (in_host host (codes "extensions.queues.visibilityTimeout") (duration_in 0 week) (Some 0)) (λ retry.
    after (in_host host (codes "extensions.queues.maxPollingInterval") (duration_in 0 (2 ^ 64 - 1)) (Some 60000))
    (λ polling.
    after (in_host host (codes "extensions.queues.messageEncoding") encoding (Some Bool.true)) (λ base64.
    Ok (record {
      batch = batch;
      threshold = threshold;
      limit = limit;
      retry = retry / 1000;
      polling = polling;
      base64 =
          base64;
    })))))))

unfoldable pub lock_seconds_of : Data → Result ℕ AppFault
lock_seconds_of host =
    after (in_host host (codes "singleton.lockPeriod") (duration_in 15000 60000) (Some 15000)) (λ period.
    after (in_host host (codes "singleton.listenerLockPeriod") (duration_in 0 (2 ^ 64 - 1)) (Some 0)) (λ _.
    after (in_host host (codes "singleton.lockAcquisitionTimeout") (duration_in 0 (2 ^ 64 - 1)) (Some 0)) (λ _.
    Ok (period / 1000))))

-- what host.json says, or the first row that it breaks
unfoldable pub host_of : Data → Result Host AppFault
host_of host =
    after (needed (codes "host.json") (codes "version")
    (option_map (is_text (codes "2.0")) (at (codes "version") host))) (λ _.
    after (handler_of host) (λ handler.
    after (queue_settings_of host) (λ queues.
    after (lock_seconds_of host) (λ lock.
    Ok (record { handler = handler; queues = queues; lock_seconds = lock })))))
