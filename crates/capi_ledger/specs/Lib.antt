pub mod CCalls
